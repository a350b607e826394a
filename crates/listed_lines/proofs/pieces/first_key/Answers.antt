-- `listed_lines::pieces::first_key` meets its contract.
use borrow.Author.Rules.{rules}
use mathlib.Core.Path.{◌∙◌}
use Rattle.machine.specs.Listing.{short, key_in}
use Rattle.listed_lines.proofs.Anywhere.{key_same}
use Rattle.listed_lines.proofs.Taking.{first_parsed}
use Rattle.listed_lines.proofs.pieces.first_key.Goals as goal

pub returns : goal.returns
returns c = first_parsed _ (key_in short) (λ s r p. search rules ∙ key_same s) c.first_field.result c.first_field.ensures
