-- What the test of the package places decides, in the words of FlatSound, and what its parts decide.
use Rattle.std.specs.Prelude.{ℕ, zero, suc, ◌+◌, ◌-◌, ◌*◌, ◌/◌, ◌%◌, ◌≤◌, ◌<◌, ◌≡◌, List, take, drop, replicate}
use Rattle.std.proofs.Math.Seq.{slice}
use Rattle.words.specs.Words.{recs}
use Rattle.regions.specs.declared.Row.{Row}
use Rattle.regions.specs.declared.Quad.{Quad}
use Rattle.regions.specs.Regions.{each}
use Rattle.regions.specs.Rows.{quad_of}
use Rattle.places.specs.Places.{place_size, place_words, place_key, wtxids_at, parents_at, kept_size, list_most}
use Rattle.machine.specs.Limits.{max_wtxids, word}
use Rattle.machine.specs.Typed.{Each}
use Rattle.store.specs.FlatSound.{PlaceFits, PlacesAscend}
use Rattle.store.specs.Read.{read_hash, read_place}

-- one place of the words v
pub record PlaceSound (rs : List Row) (v : List ℕ) : Type 0 where
  pub words_are : v ≡ place_words (read_place v)
  pub fit : PlaceFits rs (read_place v)

-- the first n places of a region of the words w
pub record PlacesSound (rs : List Row) (n : ℕ) (w : List ℕ) : Type 0 where
  pub words_are : take (place_size * n) w ≡ each place_words (recs place_size read_place n w)
  pub fit : Each (PlaceFits rs) (recs place_size read_place n w)
  pub ascend : PlacesAscend 0 (recs place_size read_place n w)

-- the words of the i-th place
abbrev pub place_at : List ℕ → ℕ → List ℕ
place_at w i = take place_size (drop (place_size * i) w)

-- ---- lists of hashes

-- the hashes from .. to of a list that starts at the word a
abbrev pub hashes_in : List ℕ → ℕ → ℕ → ℕ → List ℕ
hashes_in w a from to = recs 4 read_hash (to - from) (drop (4 * from) (drop a w))

-- where a hash of a list is marked, by its words
abbrev pub slot_count : ℕ
slot_count = 4096

unfoldable pub fold_of : Quad → ℕ
fold_of q = (((q.w3 + q.w2 * 3 % word) % word + q.w1 * 5 % word) % word + q.w0 * 7 % word) % word

abbrev pub slot_of : ℕ → ℕ
slot_of h = (fold_of (quad_of h) % 4294967296 + fold_of (quad_of h) / 4294967296) * 506952113 / 1048576 % slot_count

-- where the kept flags lie
abbrev pub kept_at : ℕ
kept_at = parents_at + 4 * list_most

-- behind m wtxids and n parents there are zeros
pub record Padded (v : List ℕ) (m n : ℕ) : Type 0 where
  pub wtxids : slice (wtxids_at + m * 4) parents_at v ≡ replicate (parents_at - (wtxids_at + m * 4)) 0
  pub parents : slice (parents_at + n * 4) kept_at v ≡ replicate (kept_at - (parents_at + n * 4)) 0
  pub kept : slice kept_at place_size v ≡ replicate kept_size 0

-- ---- by stage: 1 flag, 2 Awaiting, 3 Enqueued; the combined hash, how many wtxids

abbrev pub StagePlain : ℕ → ℕ → ℕ → Type 0
StagePlain zero h n = ⊥
StagePlain (suc zero) h n = (h ≡ 0) × (n ≡ 0)
StagePlain (suc (suc zero)) h n = (1 ≤ n) × (n ≤ max_wtxids)
StagePlain (suc (suc (suc zero))) h n = (1 ≤ n) × (n ≤ max_wtxids)
StagePlain (suc (suc (suc (suc s)))) h n = ⊥

-- ---- one place behind another

abbrev pub PlaceFollows : List ℕ → ℕ → Type 0
PlaceFollows w i = 0 < i → place_key (place_at w (i - 1)) < place_key (place_at w i)
