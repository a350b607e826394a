-- `looking::next_look` meets its contract.
use Prim.Native.Nat.{◌≤◌}
use Rattle.store.specs.Flat.{Flat}
use Rattle.store.specs.Gather.{gather}
use Rattle.store.specs.Image.{Shows}
use Rattle.announcing.specs.Evicts.{part}
use Rattle.looking.specs.Looking.{LooksAt}
use Rattle.looking.proofs.next_look.Given as goal

abbrev pub invariant-loop-i : goal.invariant-loop-i
invariant-loop-i l = (l.i ≤ l.n) × ((f : Flat) → Shows l.s f → LooksAt l.clock (gather (part l.i l.n f.rows)) l.v)
