use Rattle.claims.proofs.Gathering.{Gathered}
use Rattle.claims.proofs.waiting.claims_of.Given as goal

abbrev pub invariant-loop-i : goal.invariant-loop-i
invariant-loop-i l = Gathered l.n l.s l.room l.m l.i
