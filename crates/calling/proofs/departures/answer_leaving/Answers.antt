-- `calling::departures::answer_leaving` meets its contract.
use mathlib.Core.Path.{refl, ap}
use native.Mathlib.Omega.{arith}
use Rattle.machine.specs.Call.{Buffer, Disconnected}
use Rattle.printing.proofs.Printing.{carried, reply-refused, does_is, departure_same}
use Rattle.printing.proofs.Fitting.{departure_fits}
use Rattle.printing.proofs.Behind.{reply_departure}
use Rattle.calling.proofs.Unplanned.{leaving_unplanned, keeps-call}
use Rattle.reading.specs.Given.{values_of}
use Rattle.calling.proofs.departures.answer_leaving.Goals as goal

pub overflow_add-n : goal.overflow_add-n
overflow_add-n c = let f = departure_fits c.disconnected.ensures _ _ _ _
    (departure_same _ c.in-Ok.is) in omega (arith, f, c.disconnected.auto)

pub put_departure-requires : goal.put_departure-requires
put_departure-requires c = let f = departure_fits c.disconnected.ensures _ _ _ _
    (departure_same _ c.in-Ok.is) in (
      omega arith,
      omega (arith, f, c.disconnected.auto),
      omega (arith, f, c.disconnected.auto),
    )

pub returns-in-Err : goal.returns-in-Err
returns-in-Err c = keeps-call refl
    (leaving_unplanned (values_of c.args.v)) (carried _ (does_is
    (ap (λ (u : Buffer). Disconnected c.args.v.connection
    c.args.v.clock u)
    c.answer_buffer-answer.ensures)
    c.disconnected.ensures) refl
    (reply-refused _ (departure_same _ c.in-Err.is) (rw (← c.from.ensures) c.refusal.ensures)))

pub returns-in-Ok : goal.returns-in-Ok
returns-in-Ok c = keeps-call refl (leaving_unplanned (values_of
    c.args.v)) (carried _ (does_is (ap (λ (u : Buffer).
    Disconnected c.args.v.connection
    c.args.v.clock u)
    c.answer_buffer-answer.ensures)
    c.disconnected.ensures) refl
    (reply_departure _ _ _ _ (departure_same _ c.in-Ok.is) c.put_departure.ensures))
