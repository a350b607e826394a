-- `gathering::region::put_in` meets its contract.
use Rattle.gathering.proofs.Looking.{row_put}
use Rattle.gathering.proofs.region.put_in.Goals as goal

pub returns : goal.returns
returns c = row_put c.from-k.ensures c.seek_row-i.ensures c.insert.ensures
