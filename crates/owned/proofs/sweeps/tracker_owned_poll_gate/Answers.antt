-- `owned::sweeps::tracker_owned_poll_gate` leaves a sound store: its arguments are such as a call's are.
use native.Mathlib.Omega.{arith}
use Rattle.tracker.specs.Made.{gates as makes}
use Rattle.tracker.proofs.Typed.{made_typed}
use Rattle.outcome.proofs.Owned.{does-keeps-sound}
use Rattle.owned.proofs.sweeps.tracker_owned_poll_gate.Goals as goal

pub returns-clause-sound : goal.returns-clause-sound
returns-clause-sound c =
    does-keeps-sound c.poll_gate-a.ensures c.requires
    (made_typed _ (makes c.args.clock (omega arith)))
