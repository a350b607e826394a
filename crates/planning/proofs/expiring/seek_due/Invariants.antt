-- `planning::expiring::seek_due` meets its contract.
use Prim.Native.Nat.{ℕ}
use mathlib.Core.Path.{◌≡◌}
use lib.ListN.{drop}
use Rattle.store.specs.Flat.{Flat}
use Rattle.store.specs.Image.{Shows}
use Rattle.planning.specs.Expiring.{due_rows}
use Rattle.planning.proofs.expiring.seek_due.Given as goal

abbrev pub invariant-loop-i : goal.invariant-loop-i
invariant-loop-i l = (f : Flat) (x : ℕ) → Shows l.s f → due_rows l.low l.clock x (drop l.from f.rows) ≡ due_rows l.low l.clock x (drop l.i f.rows)
