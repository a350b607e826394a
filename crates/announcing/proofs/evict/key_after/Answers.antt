use mathlib.Core.Path.{◌∙◌}
use native.Mathlib.Omega.{arith}
use Rattle.announcing.proofs.Pairs.{rows_after}
use Rattle.announcing.proofs.evict.key_after.Goals as goal

pub returns : goal.returns
returns c = c.lt.ensures ∙ rw (c.from.ensures, c.from-2.ensures) (rows_after c.args.a c.args.b (omega arith) (omega arith))
