-- `claiming::checked::claim` meets its contract.
use Rattle.claiming.proofs.Listed.{Reached}
use Rattle.claiming.proofs.checked.claim.Given as goal

abbrev pub invariant-loop-e : goal.invariant-loop-e
invariant-loop-e l = Reached l.clock.time l.checked l.initial.s l.s l.initial.out l.out l.e-index l.n
