-- `choosing::later::wait_in` meets its contract.
use Prim.Native.Nat.{◌≤◌}
use Rattle.store.specs.Flat.{Flat}
use Rattle.store.specs.Image.{Shows}
use Rattle.announcing.specs.Evicts.{part}
use Rattle.choosing.proofs.Waiting.{NoneReady}
use Rattle.choosing.proofs.later.wait_in.Given as goal

abbrev pub invariant-loop-i : goal.invariant-loop-i
invariant-loop-i l = (l.fn.x.from ≤ l.i) × (l.i ≤ l.fn.x.to) × ((f : Flat) → Shows l.s f → NoneReady l.clock (part l.i l.fn.x.to f.rows) l.w)
