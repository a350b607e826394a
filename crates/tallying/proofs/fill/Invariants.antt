-- `tallying::fill` meets its contract.
use Rattle.tallying.proofs.Filling.{Filling}
use Rattle.tallying.proofs.fill.Given as goal

abbrev pub invariant-loop-i : goal.invariant-loop-i
invariant-loop-i l = Filling l.initial.s l.s l.n l.i
