-- `owned::candidates::tracker_owned_announce_parents` leaves a sound store: its arguments are such as a call's are.
use native.Mathlib.Omega.{arith}
use Rattle.tracker.specs.Made.{announces-parents as makes}
use Rattle.tracker.proofs.Typed.{made_typed}
use Rattle.outcome.proofs.Owned.{does-keeps-sound}
use Rattle.owned.proofs.candidates.tracker_owned_announce_parents.Goals as goal

pub returns-clause-sound : goal.returns-clause-sound
returns-clause-sound c =
    does-keeps-sound c.announce_parents-l.ensures c.requires
    (made_typed _ (makes c.args.connection c.args.clock c.args.parents.now c.args.answer.now (omega arith) (omega arith) (λ i. omega (arith, c.type_inv.parents i))))
