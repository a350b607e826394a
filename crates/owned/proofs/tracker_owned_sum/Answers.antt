-- `owned::tracker_owned_sum` meets its contract: that of the checked call, behind its sound test.
use Rattle.crossing.proofs.Statuses.{hands-figures}
use Rattle.owned.proofs.tracker_owned_sum.Goals as goal

pub returns : goal.returns
returns c =
    let h = hands-figures c.sum-f.result _ _ _ _ c.sum-f.ensures c.hand_figures.ensures in
    record { leaves = h.0; kept = (h.1, h.2, h.3, h.4) }
