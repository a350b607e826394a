-- `gathering::deferred::defer_at` meets its contract.
use native.Mathlib.Omega.{arith}
use Rattle.gathering.proofs.Deferrals.{deferred_not, deferred_in}
use Rattle.announcing.proofs.Lent.{key_low}
use Rattle.gathering.proofs.deferred.defer_at.Goals as goal

pub returns-in-Err : goal.returns-in-Err
returns-in-Err c = deferred_not (key_low c.args.k c.well_formed.1.1.1.1.0) (omega (arith, c.if-d-top.false)) (rw (c.new.ensures.0, c.new.ensures.1) at c.in-Err.ensures.0)
    c.in-Err.ensures.1

pub returns-in-Ok : goal.returns-in-Ok
returns-in-Ok c = deferred_in (key_low c.args.k c.well_formed.1.1.1.1.0) (omega (arith, c.if-d-top.false)) c.get-y.ensures
    (rw (c.new.ensures.0, c.new.ensures.1) at c.in-Ok.ensures.0) c.waiting_row.ensures c.put_in.ensures
