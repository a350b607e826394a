use Rattle.leaving.proofs.OwnRows.{Owning}
use Rattle.leaving.proofs.own_keys.Given as goal

abbrev pub invariant-loop-i : goal.invariant-loop-i
invariant-loop-i l = Owning l.n l.s l.initial.out l.out l.c l.i
