-- `lent_lists::item_at` meets its contract.
use native.Mathlib.Omega.{arith}
use Rattle.lent_lists.proofs.Inventory.{length-items, item_is}
use Rattle.lent_lists.proofs.item_at.Goals as goal

pub overflow_mul-i : goal.overflow_mul-i
overflow_mul-i c = omega (arith, length-items c.args.b.now, c.requires)

pub record_at-kind-requires : goal.record_at-kind-requires
record_at-kind-requires c = omega (arith, length-items c.args.b.now, c.requires)

pub returns : goal.returns
returns c =
    item_is c.args.b.now c.args.i c.requires c.record_at-kind.ensures.word c.kind_in-kind.ensures c.record_at-kind.ensures.hash
