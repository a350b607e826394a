-- `printing::entries::put_behind` meets its contract. The loop's invariant: the first i entries are written.
use Prim.Native.Nat.{◌+◌, ◌*◌, ◌≤◌}
use mathlib.Core.Path.{◌≡◌}
use lib.ListN.{length}
use Rattle.claiming.specs.Claiming.{entries_from}
use Rattle.lines.specs.Text.{Wrote, with_commas}
use Rattle.printing.specs.Replies.{entry_texts}
use Rattle.printing.specs.Given.{entry_room}
use Rattle.printing.proofs.entries.put_behind.Given as goal

abbrev pub invariant-loop-i : goal.invariant-loop-i
invariant-loop-i l = (length l.out ≡ length l.initial.out) × (l.to ≤ l.at + entry_room * l.i)
    × Wrote l.initial.out l.out l.at (with_commas (entry_texts (entries_from l.answer l.first l.i))) l.to
