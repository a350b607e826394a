-- `wrapping::offering::displaces` meets its contract.
use native.Mathlib.Omega.{arith}
use Rattle.words.specs.Words.{words}
use Rattle.lent_lists.specs.Items.{items_in}
use Rattle.lent_lists.proofs.Inventory.{paired-inside}
use Rattle.wrapping.proofs.offering.displaces.Goals as goal

pub item_at-item-requires : goal.item_at-item-requires
item_at-item-requires c = omega (
  arith,
  c.requires.1,
  paired-inside (items_in
      c.args.b.items.now) (words c.args.b.priorities.now),
)
