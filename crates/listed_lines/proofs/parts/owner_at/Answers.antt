-- `listed_lines::parts::owner_at` meets its contract.
use mathlib.Core.Path.{refl}
use borrow.Author.Rules.{rules}
use Rattle.machine.specs.Listing.{owner_then}
use Rattle.listed_lines.specs.Given.{the_owner, owner_of}
use Rattle.listed_lines.proofs.Missing.{nothing, something, maybe_parsed}
use Rattle.listed_lines.proofs.Forms.{owner-empty}
use Rattle.listed_lines.proofs.parts.owner_at.Goals as goal

pub returns : goal.returns
returns c =
    maybe_parsed the_owner owner_of refl (λ o. refl) (λ r n. nothing owner_then n) (λ n o a. something owner_then n owner-empty (search rules))
    c.maybe_at.result c.maybe_at.ensures
