-- `gathering::beside::set_aside` meets its contract.
use Rattle.gathering.proofs.Faring.{set_none, set-keyed}
use Rattle.gathering.proofs.beside.set_aside.Goals as goal

pub returns-in_default : goal.returns-in_default
returns-in_default c = set-keyed c.in_default.ensures set_none
