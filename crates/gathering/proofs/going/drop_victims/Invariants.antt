-- `gathering::going::drop_victims` meets its contract.
use Rattle.announcing.specs.Falls.{goes_by}
use Rattle.announcing.proofs.DroppingRows.{Dropping}
use Rattle.gathering.proofs.going.drop_victims.Given as goal

abbrev pub invariant-loop-i : goal.invariant-loop-i
invariant-loop-i l = Dropping l.initial.s l.s (goes_by l.v) l.i l.k
