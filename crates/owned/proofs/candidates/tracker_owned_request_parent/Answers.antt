-- `owned::candidates::tracker_owned_request_parent` leaves a sound store: its arguments are such as a call's are.
use Rattle.tracker.specs.Made.{requests-parent as makes}
use Rattle.tracker.proofs.Typed.{made_typed}
use Rattle.outcome.proofs.Owned.{does-keeps-sound}
use Rattle.owned.proofs.candidates.tracker_owned_request_parent.Goals as goal

pub returns-clause-sound : goal.returns-clause-sound
returns-clause-sound c =
    does-keeps-sound c.request_parent-a.ensures c.requires
    (made_typed _ (makes c.candidate-c.result c.candidate-c.type_inv))
