-- `selecting::phase::phase_given` meets its contract.
use Rattle.selecting.proofs.Walked.{phased}
use Rattle.selecting.proofs.phase.phase_given.Goals as goal

pub returns : goal.returns
returns c = phased c.opened.ensures c.keys_given.ensures
