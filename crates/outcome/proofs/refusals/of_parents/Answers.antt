-- `outcome::refusals::of_parents` meets its contract.
use native.Mathlib.Omega.{arith}
use Rattle.outcome.proofs.Turns.{parents-many, parents_few}
use Rattle.outcome.proofs.refusals.of_parents.Goals as goal

pub returns-then-count-gt-MAX_PARENTS : goal.returns-then-count-gt-MAX_PARENTS
returns-then-count-gt-MAX_PARENTS c = parents-many _ (omega arith)

pub returns : goal.returns
returns c = parents_few _ (omega arith)
