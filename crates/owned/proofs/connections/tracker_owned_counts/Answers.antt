-- `owned::connections::tracker_owned_counts` meets its contract: that of the checked call, behind its sound test.
use Rattle.crossing.proofs.Counts.{hands-counts}
use Rattle.owned.proofs.connections.tracker_owned_counts.Goals as goal

pub returns : goal.returns
returns c = hands-counts _ c.counts-c.result _ _ c.counts-c.ensures c.hand_counts.ensures
