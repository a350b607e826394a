-- `owned::sweeps::tracker_owned_sweep` leaves a sound store: its arguments are such as a call's are.
use Rattle.tracker.specs.Made.{sweeps as makes}
use Rattle.tracker.proofs.Typed.{made_typed}
use Rattle.outcome.proofs.Owned.{does-keeps-sound}
use Rattle.owned.proofs.sweeps.tracker_owned_sweep.Goals as goal

pub returns-clause-sound : goal.returns-clause-sound
returns-clause-sound c =
    does-keeps-sound c.sweep-l.ensures c.requires
    (made_typed _ (makes c.args.answer.now))
