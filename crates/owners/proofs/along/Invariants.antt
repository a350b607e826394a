-- `owners::along` meets its contract.
use Rattle.regions.specs.Rows.{quad_number}
use Rattle.owners.proofs.Stretches.{Going}
use Rattle.owners.proofs.along.Given as goal

abbrev pub invariant-loop-i : goal.invariant-loop-i
invariant-loop-i l = Going l.s l.rows.from l.rows.to (quad_number l.h) l.i l.keys l.owner
