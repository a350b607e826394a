use Prim.Native.Nat.{◌-◌}
use Rattle.regions.proofs.Order.{Bisecting}
use Rattle.regions.proofs.lower_bound.Given as goal

abbrev pub invariant-loop-lo : goal.invariant-loop-lo
invariant-loop-lo g l = Bisecting (goal.F-post g l.falls_short) l.n l.lo l.hi

abbrev pub decreases-loop-lo : goal.decreases-loop-lo
decreases-loop-lo g l = l.hi - l.lo
