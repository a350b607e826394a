-- `regions::near::lower_bound_near` meets its contract.
use native.Mathlib.Omega.{arith}
use Rattle.regions.proofs.Order.{bound_met, bound_last}
use Rattle.regions.proofs.near.lower_bound_near.Goals as goal

pub returns-then-guess-n : goal.returns-then-guess-n
returns-then-guess-n g c = bound_last c.args.guess (omega arith) (rw c.if-not-falls_short.false at c.falls_short.ensures) c.if-guess-n.true

pub returns : goal.returns
returns g c = bound_met c.args.guess (omega arith) (rw c.if-not-falls_short.false at c.falls_short.ensures) (omega arith) (rw c.if-falls_short.false at c.falls_short-2.ensures)
