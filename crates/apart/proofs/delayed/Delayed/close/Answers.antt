-- `apart::delayed::Delayed::close` meets its contract.
use mathlib.Core.Path.{refl}
use Rattle.apart.proofs.Delays.{opens_supplies, closes_so, closes_finished}
use Rattle.apart.proofs.delayed.Delayed.close.Goals as goal

pub finish-requires : goal.finish-requires
finish-requires c = opens_supplies c.requires c.if-not-self.false

pub returns-then-not-self : goal.returns-then-not-self
returns-then-not-self c = (closes_so c.if-not-self.true, refl)

pub returns : goal.returns
returns c = (closes_finished c.if-not-self.false c.finish.ensures.0 c.clear.ensures, c.finish.ensures.1)
