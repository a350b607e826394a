-- `listed_counts::zeros` meets its contract.
use Rattle.heavy.proofs.Seeking.{length-nought, sum-nought}
use Rattle.listed_counts.proofs.zeros.Goals as goal

pub returns : goal.returns
returns g c = (length-nought g.row.K, sum-nought g.row.K)
