use Prim.Native.Nat.{◌+◌, ◌-◌, ◌≤◌}
use mathlib.Core.Path.{◌≡◌}
use Rattle.words.specs.Words.{words}
use Rattle.store.specs.FlatSound.{count_rows, owns}
use Rattle.sound_rows.specs.Groups.{rows_in}
use Rattle.sound_rows.proofs.group.owners.Given as goal

abbrev pub invariant-loop-i : goal.invariant-loop-i
invariant-loop-i l = (l.part.from ≤ l.i) × (l.i ≤ l.part.to) × (l.sum ≤ l.i - l.part.from)
    × (l.sum + count_rows owns (rows_in (words l.part.rows.bytes.now) l.i l.part.to) ≡ count_rows owns (rows_in (words l.part.rows.bytes.now) l.part.from l.part.to))
