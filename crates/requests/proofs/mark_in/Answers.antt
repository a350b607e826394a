use mathlib.Core.Path.{ap, ◌∙◌}
use borrow.Author.Tests.{lt-ltb}
use Rattle.machine.specs.Table.{one}
use Rattle.store.specs.FlatSound.{mark_bit}
use Rattle.requests.proofs.Pushing.{one_bit}
use Rattle.requests.proofs.mark_in.Goals as goal

pub returns-then-from-to : goal.returns-then-from-to
returns-then-from-to c = λ f d h. rw (lt-ltb _ _ c.if-from-to.true) (ap one c.is_marked.ensures ∙ one_bit _ ∙ ap mark_bit (c.row_at.ensures f d h))
