-- `calling::numbers::answer_sum` meets its contract.
use mathlib.Core.Path.{refl, ap}
use Rattle.outcome.specs.Reply.{figures_of}
use Rattle.printing.proofs.Printing.{carried, reply-refused, reply-figures}
use Rattle.calling.proofs.Unplanned.{sum_unplanned, keeps-call}
use Rattle.calling.proofs.numbers.answer_sum.Goals as goal

pub returns-in-Err : goal.returns-in-Err
returns-in-Err c = keeps-call refl sum_unplanned (carried _ c.sum.ensures refl
    (reply-refused _ (ap figures_of c.in-Err.is) (rw (← c.from.ensures) c.refusal.ensures)))

pub returns-in-Ok : goal.returns-in-Ok
returns-in-Ok c = keeps-call refl sum_unplanned (carried _ c.sum.ensures refl
    (reply-figures (ap figures_of c.in-Ok.is) c.figures.ensures))
