use Rattle.claims.specs.Awaited.{entries_in}
use Rattle.claims.proofs.Listing.{Failed}
use Rattle.claims.proofs.waiting.fail_given.Given as goal

abbrev pub invariant-loop-i : goal.invariant-loop-i
invariant-loop-i l = Failed l.initial.s l.s l.initial.out l.out l.n.number l.clock (entries_in l.given) l.i l.c
