-- `owned::failures::tracker_owned_failed_with_parents` leaves a sound store: its arguments are such as a call's are.
use native.Mathlib.Omega.{arith}
use Rattle.tracker.specs.Made.{fails_with_parents as makes}
use Rattle.tracker.proofs.Typed.{made_typed}
use Rattle.outcome.proofs.Owned.{does-keeps-sound}
use Rattle.owned.proofs.failures.tracker_owned_failed_with_parents.Goals as goal

pub returns-clause-sound : goal.returns-clause-sound
returns-clause-sound c =
    does-keeps-sound c.failed_with_parents-l.ensures c.requires
    (made_typed _ (makes c.key_given-k.result c.args.connection c.args.clock c.args.answer.now c.key_given-k.type_inv (omega arith) (omega arith)))
