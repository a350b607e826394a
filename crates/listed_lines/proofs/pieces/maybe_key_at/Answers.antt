-- `listed_lines::pieces::maybe_key_at` meets its contract.
use mathlib.Core.Path.{refl}
use borrow.Author.Rules.{rules}
use Rattle.machine.specs.Listing.{short, key_in}
use Rattle.lines.specs.Values.{key_in as key_read, named_key}
use Rattle.listed_lines.proofs.Anywhere.{key_took}
use Rattle.listed_lines.proofs.Missing.{no_value, maybe_value, maybe_parsed}
use Rattle.listed_lines.proofs.pieces.maybe_key_at.Goals as goal

pub returns : goal.returns
returns c =
    maybe_parsed named_key key_read refl (λ v. refl) (λ r n. no_value (key_in short) n) (λ n o a. maybe_value (key_in short) n (key_took (search rules)))
    c.maybe_at.result c.maybe_at.ensures
