-- `owned::departures::tracker_owned_disconnected` leaves a sound store: its arguments are such as a call's are.
use native.Mathlib.Omega.{arith}
use Rattle.tracker.specs.Made.{departs as makes}
use Rattle.tracker.proofs.Typed.{made_typed}
use Rattle.outcome.proofs.Owned.{does-keeps-sound}
use Rattle.owned.proofs.departures.tracker_owned_disconnected.Goals as goal

pub returns-clause-sound : goal.returns-clause-sound
returns-clause-sound c =
    does-keeps-sound c.disconnected-d.ensures c.requires
    (made_typed _ (makes c.args.connection c.args.clock c.args.answer.now (omega arith) (omega arith)))
