use Prim.Native.Nat.{ℕ, ◌<◌, ◌≤◌}
use Rattle.words.specs.Words.{words}
use Rattle.regions.specs.Rows.{quad_number}
use Rattle.store.specs.FlatSound.{hash_at}
use Rattle.sound_rows.specs.Groups.{row_at}
use Rattle.sound_rows.proofs.group.run_end.Given as goal

abbrev pub invariant-loop-i : goal.invariant-loop-i
invariant-loop-i l = (l.part.from ≤ l.i) × (l.i ≤ l.part.to) × ((k : ℕ) → l.part.from ≤ k → k < l.i → hash_at (row_at (words l.part.rows.bytes.now) k) ≤ quad_number l.h)
