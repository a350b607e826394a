-- `outcome::refusals::of_clock` meets its contract.
use Rattle.outcome.proofs.Turns.{clock-tested}
use Rattle.outcome.proofs.refusals.of_clock.Goals as goal

pub returns-clause-test : goal.returns-clause-test
returns-clause-test c = rw c.ok_or.ensures.value (clock-tested _ _ c.new.ensures)
