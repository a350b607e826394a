use Rattle.ident.proofs.Words.{hash-four}
use Rattle.regions.proofs.Hashes.{quad-of}
use Rattle.regions.proofs.QuadFromIdentHash.from.Goals as goal

pub returns : goal.returns
returns c = quad-of c.args.h (hash-four c.args.h c.well_formed.0)
