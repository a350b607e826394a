use Rattle.sweeping.proofs.Walking.{Walking}
use Rattle.sweeping.proofs.batch.keys_in.Given as goal

abbrev pub invariant-loop-i : goal.invariant-loop-i
invariant-loop-i l = Walking l.s l.rows.from l.rows.to l.most l.initial.out l.out l.initial.w l.w l.i
