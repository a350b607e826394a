use Rattle.tearing.proofs.TearingRows.{Tearing}
use Rattle.tearing.proofs.tear_rows.Given as goal

abbrev pub invariant-loop-i : goal.invariant-loop-i
invariant-loop-i l = Tearing l.initial.s l.s l.clock l.i l.k.rows l.k.reached
