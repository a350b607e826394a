use Prim.Native.Nat.{ℕ, ◌-◌, ◌<◌, ◌≤◌}
use mathlib.Core.Path.{◌≡◌}
use mathlib.Core.Bool.{true}
use Rattle.words.specs.Words.{words, Decides}
use Rattle.regions.specs.Rows.{quad_number}
use Rattle.store.specs.FlatSound.{count_rows, hash_at, owns}
use Rattle.sound_rows.specs.Groups.{row_at, rows_in, Alike}
use Rattle.sound_rows.proofs.ConnMarks.{Marks}
use Rattle.sound_rows.proofs.group.walk.Given as goal

abbrev pub invariant-loop-i : goal.invariant-loop-i
invariant-loop-i l = record {
  most : l.i ≤ l.part.to;
  same : (k : ℕ) → l.part.from ≤ k → k < l.i → hash_at (row_at (words l.part.rows.bytes.now) k) ≡ quad_number l.h;
  owners : l.owners ≡ count_rows owns (rows_in (words l.part.rows.bytes.now) l.part.from l.i);
  few : l.owners ≤ l.i - l.part.from;
  once : l.once ≡ true → Marks (words l.part.rows.bytes.now) l.part.from l.i l.mark l.initial.slots l.slots;
  fit : Decides l.fit (Alike l.kind (words l.part.rows.bytes.now) l.part.from l.i);
}
