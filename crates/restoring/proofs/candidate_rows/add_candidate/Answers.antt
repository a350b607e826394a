-- `restoring::candidate_rows::add_candidate` meets its contract.
use Rattle.restoring.proofs.Appending.{row-added}
use Rattle.restoring.proofs.candidate_rows.add_candidate.Goals as goal

pub returns : goal.returns
returns c = row-added _ c.row_of-row.ensures c.rows-n.ensures.field c.add.ensures
