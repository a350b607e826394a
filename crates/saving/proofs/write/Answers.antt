-- `saving::write` meets its contract.
use Rattle.saving.proofs.Walking.{saved}
use Rattle.saving.proofs.write.Goals as goal

pub returns : goal.returns
returns c = saved c.put_head-e.ensures.1 c.put_requests.ensures
