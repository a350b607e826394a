-- `wire::read_item` meets its contract.
use Rattle.wire.proofs.Filling.{item_read}
use Rattle.wire.proofs.read_item.Goals as goal

pub returns : goal.returns
returns c =
    item_read c.args.p.now c.args.list.now c.args.a c.args.i c.requires.0
    c.type_at-t.ensures
    c.hash_at-h.ensures
    c.put_record.ensures
