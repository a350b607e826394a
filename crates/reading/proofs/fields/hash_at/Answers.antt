-- `reading::fields::hash_at` meets its contract.
use borrow.Author.Rules.{rules}
use Rattle.machine.specs.Fields.{hash_of}
use Rattle.reading.proofs.Taking.{field_parsed}
use Rattle.reading.proofs.fields.hash_at.Goals as goal

pub returns : goal.returns
returns c = field_parsed _ hash_of (λ s r p. search rules) c.field_at.result c.field_at.ensures
