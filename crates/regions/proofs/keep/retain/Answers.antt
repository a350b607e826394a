-- `regions::keep::retain` meets its contract.
use Rattle.regions.proofs.Retaining.{sifted-retained}
use Rattle.regions.proofs.keep.retain.Goals as goal

pub returns : goal.returns
returns g c = sifted-retained c.sift-m.ensures c.truncate.ensures.region
