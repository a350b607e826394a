-- `owned::candidates::tracker_owned_announce` leaves a sound store: its arguments are such as a call's are.
use Rattle.tracker.specs.Made.{announces as makes}
use Rattle.tracker.proofs.Typed.{made_typed}
use Rattle.outcome.proofs.Owned.{does-keeps-sound}
use Rattle.owned.proofs.candidates.tracker_owned_announce.Goals as goal

pub returns-clause-sound : goal.returns-clause-sound
returns-clause-sound c =
    does-keeps-sound c.announce-a.ensures c.requires
    (made_typed _ (makes c.candidate-c.result c.candidate-c.type_inv))
