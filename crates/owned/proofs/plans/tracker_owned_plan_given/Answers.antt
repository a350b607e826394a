-- `owned::plans::tracker_owned_plan_given` leaves a sound store: its arguments are such as a call's are.
use native.Mathlib.Omega.{arith}
use Rattle.tracker.specs.Made.{plans_given as makes}
use Rattle.tracker.proofs.Typed.{made_typed}
use Rattle.outcome.proofs.Owned.{does-keeps-sound}
use Rattle.crossing.proofs.Statuses.{hands-plan}
use Rattle.owned.proofs.plans.tracker_owned_plan_given.Goals as goal

pub returns-clause-sound : goal.returns-clause-sound
returns-clause-sound c =
    does-keeps-sound c.plan_given-p.ensures c.requires
    (made_typed _ (makes c.args.clock c.args.given.now c.args.answer.now (omega arith) (λ i. omega (arith, c.type_inv.given i))))

pub returns-clause-hands_plan : goal.returns-clause-hands_plan
returns-clause-hands_plan c = hands-plan _ _ _ c.plan_given-p.result _ _ _ c.plan_given-p.ensures c.hand_plan.ensures
