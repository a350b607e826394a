-- `owners::list::above_last` meets its contract.
use mathlib.Core.Path.{◌∙◌}
use lib.Dec.{ltb}
use Rattle.owners.proofs.Listed.{quad_is}
use Rattle.owners.proofs.list.above_last.Goals as goal

pub returns : goal.returns
returns c = c.quad_less.ensures ∙ (λ j. ltb (quad_is c.from-a.ensures c.hash_in.ensures j) (quad_is c.from-b.ensures c.hash_in-2.ensures j))
