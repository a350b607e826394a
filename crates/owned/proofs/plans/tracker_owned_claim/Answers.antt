-- `owned::plans::tracker_owned_claim` leaves a sound store: its arguments are such as a call's are.
use native.Mathlib.Omega.{arith}
use Rattle.tracker.specs.Made.{claims as makes}
use Rattle.tracker.proofs.Typed.{made_typed}
use Rattle.outcome.proofs.Owned.{does-keeps-sound}
use Rattle.owned.proofs.plans.tracker_owned_claim.Goals as goal

pub returns-clause-sound : goal.returns-clause-sound
returns-clause-sound c =
    does-keeps-sound c.claim-l.ensures c.requires
    (made_typed _ (makes c.args.clock c.args.checked.now c.args.answer.now (omega arith) (λ i. omega (arith, c.type_inv.checked i))))
