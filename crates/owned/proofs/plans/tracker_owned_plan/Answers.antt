-- `owned::plans::tracker_owned_plan` leaves a sound store: its arguments are such as a call's are.
use native.Mathlib.Omega.{arith}
use Rattle.tracker.specs.Made.{plans as makes}
use Rattle.tracker.proofs.Typed.{made_typed}
use Rattle.outcome.proofs.Owned.{does-keeps-sound}
use Rattle.crossing.proofs.Statuses.{hands-plan}
use Rattle.owned.proofs.plans.tracker_owned_plan.Goals as goal

pub returns-clause-sound : goal.returns-clause-sound
returns-clause-sound c =
    does-keeps-sound c.plan-p.ensures c.requires
    (made_typed _ (makes c.args.clock c.args.answer.now (omega arith)))

pub returns-clause-hands_plan : goal.returns-clause-hands_plan
returns-clause-hands_plan c = hands-plan _ _ _ c.plan-p.result _ _ _ c.plan-p.ensures c.hand_plan.ensures
