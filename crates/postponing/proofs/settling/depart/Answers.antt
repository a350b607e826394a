-- `postponing::settling::depart` meets its contract.
use Rattle.postponing.proofs.Settled.{departs}
use Rattle.postponing.proofs.settling.depart.Goals as goal

pub returns-then-c-gt0 : goal.returns-then-c-gt0
returns-then-c-gt0 c = departs c.drop_due.ensures
