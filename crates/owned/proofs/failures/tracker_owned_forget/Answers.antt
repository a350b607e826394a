-- `owned::failures::tracker_owned_forget` leaves a sound store: its arguments are such as a call's are.
use Rattle.tracker.specs.Made.{forgets as makes}
use Rattle.tracker.proofs.Typed.{made_typed}
use Rattle.outcome.proofs.Owned.{does-keeps-sound}
use Rattle.owned.proofs.failures.tracker_owned_forget.Goals as goal

pub returns-clause-sound : goal.returns-clause-sound
returns-clause-sound c =
    does-keeps-sound c.forget.ensures c.requires
    (made_typed _ (makes c.key_given-k.result c.key_given-k.type_inv))
