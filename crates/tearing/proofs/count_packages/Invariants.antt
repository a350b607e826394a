use Rattle.tearing.proofs.TearingPlaces.{Counting}
use Rattle.tearing.proofs.count_packages.Given as goal

abbrev pub invariant-loop-i : goal.invariant-loop-i
invariant-loop-i l = Counting l.s l.i l.c
