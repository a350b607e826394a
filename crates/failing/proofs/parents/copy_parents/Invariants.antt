use Rattle.failing.proofs.Copying.{Copied}
use Rattle.failing.proofs.parents.copy_parents.Given as goal

abbrev pub invariant-loop-j : goal.invariant-loop-j
invariant-loop-j l = Copied l.s l.i l.n l.initial.list l.list l.j
