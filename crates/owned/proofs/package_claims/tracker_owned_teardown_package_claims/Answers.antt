-- `owned::package_claims::tracker_owned_teardown_package_claims` leaves a sound store: its arguments are such as a call's are.
use native.Mathlib.Omega.{arith}
use Rattle.tracker.specs.Made.{tears_down as makes}
use Rattle.tracker.proofs.Typed.{made_typed}
use Rattle.outcome.proofs.Owned.{does-keeps-sound}
use Rattle.owned.proofs.package_claims.tracker_owned_teardown_package_claims.Goals as goal

pub returns-clause-sound : goal.returns-clause-sound
returns-clause-sound c =
    does-keeps-sound c.teardown_package_claims-a.ensures c.requires
    (made_typed _ (makes c.args.clock (omega arith)))
