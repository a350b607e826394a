-- `events::input::Session::take_all` meets its contract. The loop's invariant: what the program keeps is the first bytes, read.
use Prim.Native.Nat.{◌-◌}
use mathlib.Core.Path.{◌≡◌}
use lib.ListN.{length, take}
use Rattle.events.specs.Input.{Reading, Held, TookAll}
use Rattle.events.proofs.input.Session.take_all.Given as goal

abbrev pub invariant-loop-at : goal.invariant-loop-at
invariant-loop-at _ l =
    (length l.store ≡ length l.initial.store)
    × ((p : Reading) → Held l.initial.self.line.so_far l.initial.self.line.bytes l.initial.store l.initial.self.lists p
    → TookAll p (take l.at l.bytes) l.self.line.so_far l.self.line.bytes l.store l.self.lists)

abbrev pub decreases-loop-at : goal.decreases-loop-at
decreases-loop-at _ l = length l.bytes - l.at
