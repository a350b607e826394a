-- `owned::wrappers::tracker_owned_transaction_not_found` leaves a sound store: its arguments are such as a call's are.
use native.Mathlib.Omega.{arith}
use Rattle.tracker.specs.Made.{misses as makes}
use Rattle.tracker.proofs.Typed.{made_typed}
use Rattle.outcome.proofs.Owned.{does-keeps-sound}
use Rattle.owned.proofs.wrappers.tracker_owned_transaction_not_found.Goals as goal

pub returns-clause-sound : goal.returns-clause-sound
returns-clause-sound c =
    does-keeps-sound c.transaction_not_found-l.ensures c.requires
    (made_typed _ (makes c.args.connection c.args.clock c.args.items.now c.args.answer.now (omega arith) (omega arith) (λ i. omega (arith, c.type_inv.items i))))
