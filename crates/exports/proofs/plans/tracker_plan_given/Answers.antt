-- `exports::plans::tracker_plan_given` meets its contract: the public call's, its reply said by the numbers handed out.
use Rattle.crossing.proofs.Statuses.{hands-plan}
use Rattle.exports.proofs.plans.tracker_plan_given.Goals as goal

pub returns : goal.returns
returns c =
    hands-plan _ _ _ c.plan_given-p.result _ _ _
    c.plan_given-p.ensures
    c.hand_plan.ensures
