-- `owned::package_calls::tracker_owned_solicit_package_info` leaves a sound store: its arguments are such as a call's are.
use native.Mathlib.Omega.{arith}
use Rattle.ident.proofs.Words.{hash-four, hash_below}
use Rattle.tracker.specs.Made.{solicits as makes}
use Rattle.tracker.proofs.Typed.{made_typed}
use Rattle.outcome.proofs.Owned.{does-keeps-sound}
use Rattle.owned.proofs.package_calls.tracker_owned_solicit_package_info.Goals as goal

pub returns-clause-sound : goal.returns-clause-sound
returns-clause-sound c =
    does-keeps-sound c.solicit_package_info-a.ensures c.requires
    (made_typed _ (makes c.args.connection _ c.args.clock c.args.parents.now (omega arith) (hash_below _ (hash-four _ c.from.type_inv)) (omega arith) (λ i. omega (arith, c.type_inv.parents i))))
