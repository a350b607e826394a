-- What is tested of one place decides that it is sound.
use Prim.Native.Nat.{ℕ, zero, suc, ◌*◌, ◌≤◌, ◌<◌}
use mathlib.Core.Path.{◌≡◌, refl, ap}
use mathlib.Core.Bool.{Bool}
use mathlib.Core.List.{List, [], ◌∷◌}
use native.Mathlib.Omega.{arith}
use mir.Syntax.{w8}
use mir.Val.{Fits}
use lib.ListN.{length, take, drop, get_or}
use Rattle.ident.specs.Number.{top}
use Rattle.words.specs.Words.{words, recs, Decides}
use Rattle.words.proofs.Words.{length-words}
use Rattle.words.proofs.Records.{length-recs}
use Rattle.regions.specs.declared.Row.{Row}
use Rattle.regions.specs.declared.Quad.{Quad}
use Rattle.regions.specs.Rows.{read_quad, quad_number}
use Rattle.places.specs.Places.{Place, place_size}
use Rattle.machine.specs.Limits.{word, max_parents}
use Rattle.machine.specs.Sound.{Hashes, NoRepeat}
use Rattle.store.specs.FlatSound.{count_rows, owns_key, StageFits, PlaceFits}
use Rattle.store.specs.Read.{read_hash, read_place}
use Rattle.store.proofs.Quads.{number-top}
use Rattle.sound.specs.Places.{PlaceSound, hashes_in, Padded, StagePlain}
use Rattle.sound_rows.proofs.Decide.{Iff, decides_iff, rest_all}
use Rattle.sound_rows.proofs.Ranges.{Below, below_bytes, below_words, below_take, below_drop, quad_ranges}
use Rattle.sound.proofs.Exact.{place_iff}
use Rattle.sound.proofs.Stage.{stage_few}

-- ---- hashes in their range

hash-top : (u : List ℕ) → Below word u → read_hash u < top
unfolding read_hash
hash-top u b = number-top (read_quad u) (quad_ranges u b)

hashes-top : (n : ℕ) (u : List ℕ) → Below word u → Hashes (recs 4 read_hash n u)
unfolding recs
hashes-top zero u b = tt
hashes-top (suc n) u b = (hash-top (take 4 u) (below_take word 4 u (omega arith) b), hashes-top n (drop 4 u) (below_drop word 4 u b))

-- ---- the stage

no-list : (l : List ℕ) → length l ≡ 0 → l ≡ []
no-list [] e = refl
no-list (x ∷ l) e = absurd (omega arith)

stage-plain : (s : ℕ) (p : Place) → StageFits s p → StagePlain s p.combined (length p.wtxids)
stage-plain zero p f = f
stage-plain (suc zero) p f = (f.0, ap length f.1)
stage-plain (suc (suc zero)) p f = (f.some_wtxid, f.few_wtxids)
stage-plain (suc (suc (suc zero))) p f = (f.some_wtxid, f.few_wtxids)
stage-plain (suc (suc (suc (suc s)))) p f = f

plain-stage : (s : ℕ) (p : Place) → p.combined < top → Hashes p.wtxids → StagePlain s p.combined (length p.wtxids) → StageFits s p
plain-stage zero p c h f = f
plain-stage (suc zero) p c h f = (f.0, no-list p.wtxids f.1)
plain-stage (suc (suc zero)) p c h f = record { combined = c; wtxids = h; some_wtxid = f.0; few_wtxids = f.1 }
plain-stage (suc (suc (suc zero))) p c h f = record { combined = c; wtxids = h; some_wtxid = f.0; few_wtxids = f.1 }
plain-stage (suc (suc (suc (suc s)))) p c h f = f

-- ---- the tests

pub record PlaceTests (rs : List Row) (v : List ℕ) : Type 0 where
  pub stage : StagePlain (get_or v 8 0) (read_hash (drop 4 v)) (get_or v 9 0)
  pub parents : get_or v 10 0 ≤ max_parents
  pub padded : Padded v (get_or v 9 0) (get_or v 10 0)
  pub distinct : NoRepeat (hashes_in v 411 0 (get_or v 10 0))
  pub owned : 1 ≤ count_rows (owns_key (read_hash v)) rs

module _ (rs : List Row) (v : List ℕ) (l : length v ≡ place_size) (b : Below word v) where
  many-wtxids : length (recs 4 read_hash (get_or v 9 0) (drop 11 v)) ≡ get_or v 9 0
  many-wtxids = length-recs 4 read_hash (get_or v 9 0) (drop 11 v)

  many-parents : length (recs 4 read_hash (get_or v 10 0) (drop 411 v)) ≡ get_or v 10 0
  many-parents = length-recs 4 read_hash (get_or v 10 0) (drop 411 v)

  stage-of : StageFits (read_place v).stage (read_place v) → StagePlain (get_or v 8 0) (read_hash (drop 4 v)) (get_or v 9 0)
  unfolding read_place
  stage-of f = rw many-wtxids at (stage-plain (get_or v 8 0) (read_place v) f)

  parents_of : length (read_place v).parents ≡ get_or v 10 0
  unfolding read_place
  parents_of = many-parents

  fits_made : StagePlain (get_or v 8 0) (read_hash (drop 4 v)) (get_or v 9 0) → get_or v 10 0 ≤ max_parents → NoRepeat (hashes_in v 411 0 (get_or v 10 0)) → 1 ≤ count_rows (owns_key (read_hash v)) rs
      → PlaceFits rs (read_place v)
  unfolding read_place
  fits_made s p d o = record {
    hash = hash-top v b;
    stage = plain-stage (get_or v 8 0) _ (hash-top (drop 4 v) (below_drop word 4 v b)) (hashes-top (get_or v 9 0) (drop 11 v) (below_drop word 11 v b)) (rw many-wtxids s);
    parents = record { hashes = hashes-top (get_or v 10 0) (drop 411 v) (below_drop word 411 v b); distinct = rw (rest_all 4 read_hash (get_or v 10 0) (drop 411 v)) at d; few = rw many-parents p };
    owned = o;
  }

  repeat_of : NoRepeat (read_place v).parents → NoRepeat (hashes_in v 411 0 (get_or v 10 0))
  unfolding read_place
  repeat_of d = rw (rest_all 4 read_hash (get_or v 10 0) (drop 411 v)) d

  owned_of : 1 ≤ count_rows (owns_key (read_place v).hash) rs → 1 ≤ count_rows (owns_key (read_hash v)) rs
  unfolding read_place
  owned_of o = o

  pub tests_iff : Iff (PlaceTests rs v) (PlaceSound rs v)
  tests_iff = record {
    to = λ t. record {
      words_are = (place_iff v l b (stage_few (get_or v 8 0) (read_hash (drop 4 v)) (get_or v 9 0) t.stage) t.parents).from t.padded;
      fit = fits_made t.stage t.parents t.distinct t.owned;
    };
    from = λ s.
        let st = stage-of s.fit.stage in
        let few : get_or v 10 0 ≤ max_parents = rw parents_of at s.fit.parents.few in
        record {
          stage = st;
          parents = few;
          padded = (place_iff v l b (stage_few (get_or v 8 0) (read_hash (drop 4 v)) (get_or v 9 0) st) few).to s.words_are;
          distinct = repeat_of s.fit.parents.distinct;
          owned = owned_of s.fit.owned;
        };
  }

-- ---- as `place_fits` makes them

pub hash_is : {q : Quad} (u : List ℕ) → q ≡ read_quad u → quad_number q ≡ read_hash u
unfolding read_hash
hash_is u e = ap quad_number e

-- (of a place's bytes)
module _ (rs : List Row) (s : List ℕ) (long : length s ≡ 8 * place_size) (t : (i : ℕ) → Fits w8 (get_or s i 0)) where
  abbrev v : List ℕ
  v = words s

  tests : Iff (PlaceTests rs v) (PlaceSound rs v)
  tests = tests_iff rs v (omega (arith, long, length-words s)) (below_words s (below_bytes s t))

  pub refuse_stage : {k m : ℕ} {c : Quad} → k ≡ get_or v 8 0 → c ≡ read_quad (drop 4 v) → m ≡ get_or v 9 0 → (StagePlain k (quad_number c) m → ⊥) → PlaceSound rs v → ⊥
  refuse_stage e f g n z = n (rw (e, hash_is (drop 4 v) f, g) (tests.from z).stage)

  pub refuse_parents : {n : ℕ} → n ≡ get_or v 10 0 → max_parents < n → PlaceSound rs v → ⊥
  refuse_parents e h z = omega (arith, (tests.from z).parents)

  pub refuse_padded : {m n : ℕ} → m ≡ get_or v 9 0 → n ≡ get_or v 10 0 → (Padded v m n → ⊥) → PlaceSound rs v → ⊥
  refuse_padded e f n z = n (rw (e, f) (tests.from z).padded)

  pub refuse_repeat : {n : ℕ} → n ≡ get_or v 10 0 → (NoRepeat (hashes_in v 411 0 n) → ⊥) → PlaceSound rs v → ⊥
  refuse_repeat e n z = n (rw e (tests.from z).distinct)

  pub decide-owned : {k m n : ℕ} {c h : Quad} (d : Bool) → k ≡ get_or v 8 0 → c ≡ read_quad (drop 4 v) → m ≡ get_or v 9 0 → n ≡ get_or v 10 0 → h ≡ read_quad (drop 0 v)
      → StagePlain k (quad_number c) m → n ≤ max_parents → Padded v m n → NoRepeat (hashes_in v 411 0 n)
      → Decides d (1 ≤ count_rows (owns_key (quad_number h)) rs) → Decides d (PlaceSound rs v)
  decide-owned {k} {m} {n} {c} {h} d e f g i q st p z r o =
      let st' : StagePlain (get_or v 8 0) (read_hash (drop 4 v)) (get_or v 9 0) = rw (e, hash_is (drop 4 v) f, g) at st in
      let z' : Padded v (get_or v 9 0) (get_or v 10 0) = rw (g, i) at z in
      let r' : NoRepeat (hashes_in v 411 0 (get_or v 10 0)) = rw i at r in
      let o' : Decides d (1 ≤ count_rows (owns_key (read_hash v)) rs) = rw (hash_is v q) at o in
      decides_iff d (record {
        to = λ w. tests.to (record { stage = st'; parents = omega arith; padded = z'; distinct = r'; owned = w });
        from = λ w. (tests.from w).owned;
      }) o'

-- for the tactic
pub ruleset refusals = (refuse_stage, refuse_parents, refuse_padded)
