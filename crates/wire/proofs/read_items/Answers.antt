-- `wire::read_items` meets its contract.
use native.Mathlib.Omega.{arith}
use Rattle.wire.proofs.Filling.{read_none, read_turn}
use Rattle.wire.proofs.read_items.Goals as goal

pub loop-i-init : goal.loop-i-init
loop-i-init c = (omega arith, omega arith, read_none _ _)

pub loop-i-preserved : goal.loop-i-preserved
loop-i-preserved c = (
  omega arith,
  omega arith,
  read_turn c.args.p.now c.args.at c.loop-i.i c.args.list.now (omega arith)
      c.loop-i.invariant.2 c.read_item.ensures,
)
