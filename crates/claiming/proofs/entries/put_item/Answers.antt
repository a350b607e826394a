-- `claiming::entries::put_item` meets its contract.
use native.Mathlib.Omega.{arith}
use Rattle.ident.specs.Words.{item_num}
use Rattle.claiming.proofs.Stored.{item-put}
use Rattle.claiming.proofs.entries.put_item.Goals as goal

pub returns : goal.returns
returns c = item-put c.args.w
    c.args.connection _
    (item_num c.args.item)
    c.requires
    (omega (arith, c.from.ensures, c.from-2.ensures)) c.put.ensures
    c.put_record.ensures
