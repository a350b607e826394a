-- `answering::answers::answer_open` meets its contract.
use mathlib.Core.Path.{refl, ap}
use Rattle.outcome.specs.Reply.{reply_of}
use Rattle.answering.proofs.Opening.{step_refused, step_opened}
use Rattle.answering.proofs.answers.answer_open.Goals as goal

pub returns-in-Err : goal.returns-in-Err
returns-in-Err c = step_refused c.args.l c.args.q c.«open».ensures refl (ap reply_of c.in-Err.is) (rw (← c.from.ensures) c.refusal.ensures)

pub returns-in-Ok : goal.returns-in-Ok
returns-in-Ok c = step_opened c.args.l c.args.q c.«open».ensures refl c.clear.ensures (ap reply_of c.in-Ok.is) c.put_bytes.ensures
