-- `regions::key_less` meets its contract: keys are in the order of their kinds, and those of one kind in that of their hashes.
use native.Mathlib.Omega.{arith}
use mathlib.Core.Path.{◌∙◌}
use Rattle.regions.proofs.Less.{keys_less}
use Rattle.regions.proofs.key_less.Goals as goal

pub returns : goal.returns
returns c = c.lt.ensures ∙ keys_less c.args.a c.args.b (omega arith) (omega arith)
