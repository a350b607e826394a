-- `planning::noted::phase_noted` meets its contract.
use Rattle.planning.proofs.Notings.{noted_phased}
use Rattle.planning.proofs.noted.phase_noted.Goals as goal

pub returns : goal.returns
returns c = noted_phased c.opened.ensures c.keys_noted.ensures
