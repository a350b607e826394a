-- `From<Quad>` of a hash meets its contract: both numbers are the same four words.
use mathlib.Core.Path.{refl}
use Rattle.words.specs.Words.{number}
use Rattle.regions.specs.Rows.{quad_number}
use Rattle.regions.proofs.IdentHashFromQuad.from.Goals as goal

pub returns : goal.returns
unfolding quad_number number
returns c = refl
