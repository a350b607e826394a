-- `parenting::displacing::announce_apart` meets its contract.
use Rattle.parenting.proofs.NextParent.{settled-further}
use Rattle.parenting.proofs.displacing.announce_apart.Goals as goal

pub settle-requires : goal.settle-requires
settle-requires c = rw (c.adopt_listed.ensures.alone c.if-adopt_listed.false) c.requires

pub returns-then-adopt_listed : goal.returns-then-adopt_listed
returns-then-adopt_listed c = c.adopt_listed.ensures.adopts c.if-adopt_listed.true

pub returns : goal.returns
returns c = settled-further (rw (c.adopt_listed.ensures.alone c.if-adopt_listed.false) at c.settle.ensures.0) c.settle.ensures.1 c.announce_unlisted.ensures
