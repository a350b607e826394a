-- `saving::put_requests` meets its contract. The loop's invariant: the rows before i are done.
use Prim.Native.Nat.{◌-◌}
use Rattle.saving.proofs.Walking.{Walked}
use Rattle.saving.proofs.put_requests.Given as goal

abbrev pub invariant-loop-i : goal.invariant-loop-i
invariant-loop-i l = Walked l.s l.initial.out l.out l.from l.i l.at

abbrev pub decreases-loop-i : goal.decreases-loop-i
decreases-loop-i l = l.n - l.i
