-- `wire::write_items` meets its contract.
use Prim.Native.Nat.{◌-◌, ◌≤◌}
use mathlib.Core.Path.{◌≡◌}
use lib.ListN.{length, take}
use Rattle.words.specs.Words.{splice}
use Rattle.lent_lists.specs.Items.{items_in}
use Rattle.wire.specs.Payload.{wires_of}
use Rattle.wire.proofs.write_items.Given as goal

abbrev pub invariant-loop-i : goal.invariant-loop-i
invariant-loop-i l = (l.i ≤ l.i-end) × (length l.s ≡ length l.initial.s) × (l.s ≡ splice l.initial.s l.at (wires_of (take l.i (items_in l.items))))

abbrev pub decreases-loop-i : goal.decreases-loop-i
decreases-loop-i l = l.i-end - l.i
