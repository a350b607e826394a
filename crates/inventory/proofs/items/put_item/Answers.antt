-- `inventory::items::put_item` meets its contract.
use Prim.Native.Nat.{◌<◌}
use native.Mathlib.Omega.{arith}
use Rattle.ident.specs.Number.{type_of}
use Rattle.regions.specs.Rows.{quad_number}
use Rattle.lent_lists.specs.Items.{type_top}
use Rattle.reading.proofs.Stored.{quad_below}
use Rattle.inventory.proofs.Putting.{item-put}
use Rattle.inventory.proofs.items.put_item.Goals as goal

pub returns : goal.returns
returns c =
    let q = c.args.item.hash in
    let t : type_of c.args.item.kind < type_top = omega
    (arith, c.from.ensures) in
    let u = quad_below q (omega arith) (omega arith) (omega arith) (omega arith) in
    item-put c.args.items.now
    c.args.i
    c.args.item.kind (quad_number q) t u
    c.requires
    (omega (arith, c.from.ensures, c.from-t.ensures)) c.from-h.ensures
    c.put_record.ensures
