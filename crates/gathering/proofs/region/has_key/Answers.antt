-- `gathering::region::has_key` meets its contract.
use Rattle.gathering.proofs.Looking.{key_in_lem}
use Rattle.gathering.proofs.region.has_key.Goals as goal

pub returns : goal.returns
returns c = key_in_lem _ c.seek_row-from.ensures c.seek_row-to.ensures
