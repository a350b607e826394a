use Prim.Native.Nat.{◌-◌, ◌≤◌}
use Rattle.sound.proofs.owner.walk_to.Given as goal

abbrev pub invariant-loop-lo : goal.invariant-loop-lo
invariant-loop-lo l = l.hi ≤ l.rows.count

abbrev pub decreases-loop-lo : goal.decreases-loop-lo
decreases-loop-lo l = l.hi - l.lo
