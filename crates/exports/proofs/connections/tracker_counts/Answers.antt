-- `exports::connections::tracker_counts` meets its contract: the public call's, its answer said by the numbers handed out.
use Rattle.crossing.proofs.Counts.{hands-counts}
use Rattle.exports.proofs.connections.tracker_counts.Goals as goal

pub returns : goal.returns
returns c = hands-counts _ c.counts-c.result _ _ c.counts-c.ensures c.hand_counts.ensures
