-- `places::clearing::retain` meets its contract.
use Rattle.regions.proofs.Retaining.{sifted-retained}
use Rattle.places.proofs.clearing.retain.Goals as goal

pub returns : goal.returns
returns g c = sifted-retained c.sift-m.ensures c.clear_from.ensures
