-- `parenting::displacing::announce_unlisted` meets its contract.
use Rattle.parenting.proofs.NextParent.{further-spent, further_next}
use Rattle.parenting.proofs.displacing.announce_unlisted.Goals as goal

pub returns-then-is_hopeless : goal.returns-then-is_hopeless
returns-then-is_hopeless c = further-spent (c.is_hopeless.ensures c.if-is_hopeless.true) c.announce_spent.ensures.1 c.announce_spent.ensures.0

pub returns : goal.returns
returns c = further_next c.announce_next.ensures
