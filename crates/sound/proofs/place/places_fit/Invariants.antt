use Prim.Native.Nat.{ℕ, ◌≤◌, ◌<◌}
use Rattle.words.specs.Words.{words, recs}
use Rattle.regions.specs.Rows.{row_size, read_row}
use Rattle.sound_rows.specs.Rows.{RowsSound}
use Rattle.sound.specs.Places.{PlaceSound, place_at, PlaceFollows}
use Rattle.sound.proofs.place.places_fit.Given as goal

abbrev pub invariant-loop-i : goal.invariant-loop-i
invariant-loop-i l = (l.i ≤ l.q) × (RowsSound (recs row_size read_row l.rows.count (words l.rows.bytes.now)) → (k : ℕ) → k < l.i
    → PlaceSound (recs row_size read_row l.rows.count (words l.rows.bytes.now)) (place_at (words l.s) k)) × ((k : ℕ) → k < l.i → PlaceFollows (words l.s) k)
