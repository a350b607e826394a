use Prim.Native.Nat.{◌≤◌}
use mathlib.Core.Path.{◌≡◌}
use Rattle.store.specs.Flat.{Flat}
use Rattle.store.specs.Image.{Shows}
use Rattle.announcing.specs.Evicts.{found, greatest_over, part}
use Rattle.announcing.proofs.evict.greatest_in.Given as goal

abbrev pub invariant-loop-i : goal.invariant-loop-i
invariant-loop-i l = (l.i ≤ l.fn.w.to)
    × ((f : Flat) → Shows l.s f → greatest_over (found l.greatest) (part l.i l.fn.w.to f.rows) ≡ greatest_over (found l.initial.greatest) (part l.initial.i l.fn.w.to f.rows))
