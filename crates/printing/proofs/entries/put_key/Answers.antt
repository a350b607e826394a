-- `printing::entries::put_key` meets its contract.
use Rattle.printing.proofs.EntryLists.{key_of_hash}
use Rattle.printing.proofs.entries.put_key.Goals as goal

pub returns : goal.returns
returns c = key_of_hash c.args.k.kind c.from.ensures c.put_key.ensures
