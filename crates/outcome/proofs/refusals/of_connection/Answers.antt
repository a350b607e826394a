-- `outcome::refusals::of_connection` meets its contract.
use Rattle.outcome.proofs.Turns.{connection-tested}
use Rattle.outcome.proofs.refusals.of_connection.Goals as goal

pub returns-clause-test : goal.returns-clause-test
returns-clause-test c = rw c.ok_or.ensures.value (connection-tested _ _ c.new.ensures)
