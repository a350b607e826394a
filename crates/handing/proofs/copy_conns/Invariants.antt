use Prim.Native.Nat.{◌≤◌}
use Rattle.machine.specs.Limits.{max_alternates}
use Rattle.handing.proofs.Copying.{Copied}
use Rattle.handing.proofs.copy_conns.Given as goal

abbrev pub invariant-loop-i : goal.invariant-loop-i
invariant-loop-i l = Copied l.s l.from l.n l.initial.conns l.conns l.i × (l.n ≤ max_alternates)
