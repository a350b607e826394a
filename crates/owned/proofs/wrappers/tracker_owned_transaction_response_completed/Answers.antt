-- `owned::wrappers::tracker_owned_transaction_response_completed` leaves a sound store: its arguments are such as a call's are.
use native.Mathlib.Omega.{arith}
use Rattle.ident.proofs.Words.{hash-four, hash_below}
use Rattle.tracker.specs.Made.{completes as makes}
use Rattle.tracker.proofs.Typed.{made_typed}
use Rattle.outcome.proofs.Owned.{does-keeps-sound}
use Rattle.owned.proofs.wrappers.tracker_owned_transaction_response_completed.Goals as goal

pub returns-clause-sound : goal.returns-clause-sound
returns-clause-sound c =
    does-keeps-sound c.transaction_response_completed.ensures c.requires
    (made_typed _ (makes c.args.connection _ _ c.args.clock (omega arith) (hash_below _ (hash-four _ c.from.type_inv)) (hash_below _ (hash-four _ c.from-2.type_inv)) (omega arith)))
