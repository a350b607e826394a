-- `printing::entries::put_number` meets its contract.
use Rattle.printing.proofs.EntryLists.{wrote-number}
use Rattle.printing.proofs.entries.put_number.Goals as goal

pub returns : goal.returns
returns c = wrote-number c.args.n
    c.requires c.put_bytes-from.ensures
    c.put_decimal.ensures
