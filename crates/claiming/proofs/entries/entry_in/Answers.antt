-- `claiming::entries::entry_in` meets its contract.
use Rattle.claiming.proofs.Readings.{entry_read}
use Rattle.claiming.proofs.entries.entry_in.Goals as goal

pub returns : goal.returns
returns c = entry_read c.args.b.now c.args.i
    c.key_at.ensures c.get.ensures c.item_at.ensures c.get-2.ensures
    c.get-3.ensures c.get-4.ensures
