-- `apart::delayed::Delayed::end` meets its contract.
use Rattle.apart.proofs.Delays.{ends_settled, ends_so}
use Rattle.apart.proofs.delayed.Delayed.end.Goals as goal

pub settle-requires : goal.settle-requires
settle-requires c = c.requires c.if-self.true

pub returns-then-self : goal.returns-then-self
returns-then-self c = ends_settled c.if-self.true c.settle.ensures.0

pub returns-else-self : goal.returns-else-self
returns-else-self c = ends_so c.if-self.false
