-- `choosing::least_in` meets its contract.
use Prim.Native.Nat.{◌≤◌}
use mathlib.Core.Path.{◌≡◌}
use mathlib.Core.List.{[]}
use Rattle.machine.specs.Plan as machine
use Rattle.store.specs.Flat.{Flat, rows_of}
use Rattle.store.specs.Image.{Shows}
use Rattle.requests.specs.Changes.{Tells}
use Rattle.announcing.specs.Evicts.{part}
use Rattle.choosing.specs.Choosing.{picked, least_rows, Found}
use Rattle.choosing.proofs.least_in.Given as goal

abbrev pub invariant-loop-i : goal.invariant-loop-i
invariant-loop-i l = (l.fn.x.from ≤ l.i) × (l.i ≤ l.fn.x.to) × Tells l.s (λ t. picked l.v ≡ least_rows (machine.able l.clock t []) (part l.i l.fn.x.to (rows_of t)))
    × ((f : Flat) → Shows l.s f → Found f.rows l.v)
