-- `parenting::displacing::announce_further` meets its contract.
use Rattle.parenting.proofs.NextParent.{further-restocked}
use Rattle.parenting.proofs.displacing.announce_further.Goals as goal

pub returns-in-Alone : goal.returns-in-Alone
returns-in-Alone c = further-restocked c.restock.ensures c.defer_with.ensures.0 c.in-Alone.is c.defer_with.ensures.1 c.announce_apart.ensures
