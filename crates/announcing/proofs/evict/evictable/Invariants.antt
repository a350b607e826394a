use Prim.Native.Nat.{◌≤◌}
use mathlib.Core.Path.{◌≡◌}
use lib.ListN.{take}
use Rattle.store.specs.Flat.{Flat}
use Rattle.store.specs.FlatSound.{count_rows}
use Rattle.store.specs.Image.{Shows}
use Rattle.announcing.proofs.Counted.{goes}
use Rattle.announcing.proofs.evict.evictable.Given as goal

abbrev pub invariant-loop-i : goal.invariant-loop-i
invariant-loop-i l = (l.i ≤ l.n) × (l.m ≤ l.i) × ((f : Flat) → Shows l.s f → l.m ≡ count_rows goes (take l.i f.rows))
