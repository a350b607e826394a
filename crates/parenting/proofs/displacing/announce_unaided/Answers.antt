-- `parenting::displacing::announce_unaided` meets its contract.
use Rattle.announcing.proofs.Lent.{hash_low}
use Rattle.parenting.proofs.NextParent.{unaided_shut}
use Rattle.parenting.proofs.displacing.announce_unaided.Goals as goal

pub returns-then-shut_out : goal.returns-then-shut_out
returns-then-shut_out c = unaided_shut c.shut_out.ensures c.if-shut_out.true (hash_low c.args.h c.well_formed.1.1.1.0)
