use mathlib.Core.Path.{refl}
use Rattle.regions.proofs.Hashes.{key-words}
use Rattle.regions.proofs.KeyFromIdentKey.from.Goals as goal

pub returns : goal.returns
returns c = key-words c.args.k _ c.from.ensures refl
