-- `announcing::dropping::keep_row` meets its contract.
use native.Mathlib.Omega.{arith}
use Rattle.announcing.proofs.DroppingRows.{kept_there}
use Rattle.announcing.proofs.dropping.keep_row.Goals as goal

pub returns-else-m-i : goal.returns-else-m-i
returns-else-m-i c = kept_there (omega (arith, c.requires.1, c.if-m-i.false)) c.requires.3
