-- `postponing::later::clear_hash` meets its contract.
use Rattle.postponing.proofs.FailingLater.{cleared_all}
use Rattle.postponing.proofs.later.clear_hash.Goals as goal

pub returns : goal.returns
returns c = cleared_all c.settle.ensures.0 c.settle.ensures.1
