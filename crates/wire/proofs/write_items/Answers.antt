-- `wire::write_items` meets its contract.
use native.Mathlib.Omega.{arith}
use Rattle.lent_lists.specs.Items.{items_in}
use Rattle.wire.proofs.Filling.{write_none, write_turn}
use Rattle.wire.proofs.write_items.Goals as goal

pub loop-i-init : goal.loop-i-init
loop-i-init c = (omega arith, omega arith, write_none (items_in c.args.items.now) c.args.s.now c.args.at)

pub loop-i-preserved : goal.loop-i-preserved
loop-i-preserved c = (
  omega arith,
  omega arith,
  write_turn (items_in c.args.items.now) c.loop-i.i c.args.at c.args.s.now
      (omega (arith, c.requires)) (omega (arith, c.requires)) c.loop-i.invariant.2 c.write_item.ensures,
)
