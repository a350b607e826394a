-- `reading::forms::read_form` meets its contract. The loop's invariant: the fields of the letters so far are read, and come to what was taken.
use native.Mathlib.Omega.{arith}
use Rattle.reading.proofs.Filling.{stopped, further, whole}
use Rattle.reading.proofs.forms.read_form.Goals as goal

pub returns-in_err-taken : goal.returns-in_err-taken
returns-in_err-taken c = rw c.from_residual.ensures (stopped c.loop-f.invariant (omega arith) c.take_field.ensures c.in_err-taken.was)

pub loop-f-preserved : goal.loop-f-preserved
loop-f-preserved c = further c.loop-f.invariant (omega arith) c.take_field.ensures c.in_ok-taken.was

pub returns : goal.returns
returns c = whole c.loop-f.invariant (omega arith) (omega arith)
