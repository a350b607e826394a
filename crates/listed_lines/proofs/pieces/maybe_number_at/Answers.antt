-- `listed_lines::pieces::maybe_number_at` meets its contract.
use mathlib.Core.Path.{refl}
use borrow.Author.Rules.{rules}
use Rattle.machine.specs.Fields.{number_of}
use Rattle.lines.specs.Values.{number_in}
use Rattle.listed_lines.proofs.Anywhere.{number_took}
use Rattle.listed_lines.proofs.Missing.{no_value, maybe_value, maybe_parsed}
use Rattle.listed_lines.proofs.pieces.maybe_number_at.Goals as goal

pub returns : goal.returns
returns c =
    maybe_parsed (λ n. n) number_in refl (λ v. refl) (λ r n. no_value number_of n) (λ n o a. maybe_value number_of n (number_took number_of (search rules)))
    c.maybe_at.result c.maybe_at.ensures
