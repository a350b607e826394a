-- `gathering::deferred::defer` meets its contract.
use Rattle.gathering.proofs.Deferrals.{deferred_none, deferred_keyed}
use Rattle.gathering.proofs.deferred.defer.Goals as goal

pub returns-in_default : goal.returns-in_default
returns-in_default c = deferred_keyed c.in_default.ensures deferred_none
