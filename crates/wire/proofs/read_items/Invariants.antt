-- `wire::read_items` meets its contract.
use Prim.Native.Nat.{◌-◌, ◌≤◌}
use mathlib.Core.Path.{◌≡◌}
use lib.ListN.{length, drop}
use Rattle.words.specs.Words.{recs}
use Rattle.machine.specs.Step.{written}
use Rattle.wire.specs.Payload.{wire_bytes, wire_item}
use Rattle.wire.specs.Calls.{items_answer}
use Rattle.wire.proofs.read_items.Given as goal

abbrev pub invariant-loop-i : goal.invariant-loop-i
invariant-loop-i l = (l.i ≤ l.n) × (length l.list ≡ length l.initial.list) × (l.list ≡ written (items_answer (recs wire_bytes wire_item l.i (drop l.at l.p))) l.initial.list)

abbrev pub decreases-loop-i : goal.decreases-loop-i
decreases-loop-i l = l.n - l.i
