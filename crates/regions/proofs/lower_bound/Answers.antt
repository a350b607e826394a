-- `regions::lower_bound` meets its contract.
use native.Mathlib.Omega.{arith}
use Prim.Native.Nat.{◌+◌, ◌-◌, ◌/◌}
use Rattle.regions.proofs.Order.{bisect_up, bisect_down, bisect_end}
use Rattle.regions.proofs.lower_bound.Goals as goal

pub loop-lo-preserved-then-falls_short : goal.loop-lo-preserved-then-falls_short
loop-lo-preserved-then-falls_short g c =
    let m = c.loop-lo.lo + (c.loop-lo.hi - c.loop-lo.lo) / 2 in
    bisect_up c.loop-lo.invariant m (omega arith) (omega arith) (rw c.if-falls_short.true at c.falls_short.ensures)

pub loop-lo-preserved : goal.loop-lo-preserved
loop-lo-preserved g c =
    let m = c.loop-lo.lo + (c.loop-lo.hi - c.loop-lo.lo) / 2 in
    bisect_down c.loop-lo.invariant m (omega arith) (omega arith) (rw c.if-falls_short.false at c.falls_short.ensures)

pub returns : goal.returns
returns g c = bisect_end c.loop-lo.invariant c.loop-lo-test.false
