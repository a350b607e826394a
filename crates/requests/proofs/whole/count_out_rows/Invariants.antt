use Rattle.requests.proofs.Shearing.{CountedOut}
use Rattle.requests.proofs.whole.count_out_rows.Given as goal

abbrev pub invariant-loop-i : goal.invariant-loop-i
invariant-loop-i l = CountedOut l.initial.s l.s l.fn.w.from l.i l.fn.w.to
