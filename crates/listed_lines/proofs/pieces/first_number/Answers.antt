-- `listed_lines::pieces::first_number` meets its contract.
use borrow.Author.Rules.{rules}
use Rattle.machine.specs.Fields.{number_of}
use Rattle.listed_lines.proofs.Taking.{first_parsed}
use Rattle.listed_lines.proofs.pieces.first_number.Goals as goal

pub returns : goal.returns
returns c = first_parsed _ number_of (λ s r p. search rules) c.first_field.result c.first_field.ensures
