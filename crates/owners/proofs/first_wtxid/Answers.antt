-- `owners::first_wtxid` meets its contract.
use Rattle.owners.proofs.Halves.{parts}
use Rattle.owners.proofs.first_wtxid.Goals as goal

pub returns : goal.returns
returns c = parts c.seek_row.ensures
