-- `reading::fields::number_at` meets its contract.
use borrow.Author.Rules.{rules}
use Rattle.machine.specs.Fields.{number_of}
use Rattle.reading.proofs.Taking.{taking_past, field_parsed}
use Rattle.reading.proofs.fields.number_at.Goals as goal

pub returns-then-line-e : goal.returns-then-line-e
returns-then-line-e c = taking_past number_of c.args.line.now c.args.e c.if-line-e.true

pub returns : goal.returns
returns c = field_parsed _ number_of (λ s r p. search rules) c.field_to.result c.field_to.ensures
