-- `printing::keys::put_behind` meets its contract.
use Prim.Native.Nat.{◌+◌, ◌*◌, ◌≤◌}
use mathlib.Core.Path.{◌≡◌}
use lib.ListN.{length, drop}
use Rattle.machine.specs.Call.{key_bytes}
use Rattle.lent_lists.specs.Lists.{keys_in}
use Rattle.lines.specs.Text.{Wrote, with_commas}
use Rattle.printing.specs.Replies.{key_texts}
use Rattle.printing.specs.Given.{next_room}
use Rattle.printing.proofs.keys.put_behind.Given as goal

abbrev pub invariant-loop-i : goal.invariant-loop-i
invariant-loop-i l = (length l.out ≡ length l.initial.out) × (l.to ≤ l.at + next_room * l.i)
    × Wrote l.initial.out l.out l.at (with_commas (key_texts (keys_in l.i (drop (key_bytes * l.first) l.answer)))) l.to
