-- `owned::failures::tracker_owned_failed_package_info` leaves a sound store: its arguments are such as a call's are.
use native.Mathlib.Omega.{arith}
use Rattle.tracker.specs.Made.{fails-info as makes}
use Rattle.tracker.proofs.Typed.{made_typed}
use Rattle.outcome.proofs.Owned.{does-keeps-sound}
use Rattle.owned.proofs.failures.tracker_owned_failed_package_info.Goals as goal

pub returns-clause-sound : goal.returns-clause-sound
returns-clause-sound c =
    does-keeps-sound c.failed_package_info-a.ensures c.requires
    (made_typed _ (makes c.key_given-k.result c.args.connection c.args.clock c.key_given-k.type_inv (omega arith) (omega arith)))
