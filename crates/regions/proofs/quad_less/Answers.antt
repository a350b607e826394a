-- `regions::quad_less` meets its contract: hashes are in the order of their words from the most significant down.
use native.Mathlib.Omega.{arith}
use mathlib.Core.Path.{◌∙◌}
use Rattle.regions.proofs.Less.{quads_less}
use Rattle.regions.proofs.quad_less.Goals as goal

pub returns : goal.returns
returns c = c.lt.ensures ∙ quads_less c.args.a c.args.b (omega arith) (omega arith)
