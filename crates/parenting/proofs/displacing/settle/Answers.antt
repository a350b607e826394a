-- `parenting::displacing::settle` meets its contract.
use mathlib.Core.Path.{refl}
use Rattle.parenting.proofs.Supplying.{gone_waits, settled_gone}
use Rattle.parenting.proofs.displacing.settle.Goals as goal

pub let_in-requires : goal.let_in-requires
let_in-requires c = gone_waits c.if-q-eq0.false c.go.ensures c.requires

pub returns : goal.returns
returns c = (settled_gone c.if-q-eq0.false c.go.ensures c.let_in.ensures.0 c.let_in.ensures.1, refl)
