-- What the contracts of places say, from what the code does to the words.
use Prim.Native.Nat.{ℕ, ◌+◌, ◌*◌, ◌≤◌, ◌<◌}
use mathlib.Core.Path.{◌≡◌, sym, ap, ◌∙◌}
use mathlib.Core.List.{List, [], ◌∷◌, ◌++◌}
use native.Mathlib.Nat.{mul_comm, add-zero}
use native.Mathlib.Omega.{arith}
use lib.Dec.{lit<, lit≤}
use lib.ListN.{length, take, drop, get_or, set, replicate, length-drop, length-replicate, replicate-append-replicate}
use lib.Seq.{length-take-le, take_all, drop-drop, get_or-take, get_or-drop}
use Rattle.words.specs.Words.{splice, up, recs}
use Rattle.words.proofs.Records.{recs_at}
use Rattle.words.proofs.Splice.{length-splice}
use Rattle.regions.specs.declared.Quad.{Quad}
use Rattle.regions.specs.Regions.{each, padded, Inserted}
use Rattle.regions.specs.Rows.{quad_words, read_quad, quad_number, quad_of}
use Rattle.regions.proofs.Gap.{splice_in, set_one}
use Rattle.regions.proofs.Regions.{holds_at, replaced, inserted_at}
use Rattle.regions.proofs.Order.{Small, quad-number}
use Rattle.places.specs.declared.Head.{Head}
use Rattle.places.specs.Places.{list_most, list_size, place_size, combined_at, stage_at, wtxid_count_at, parent_count_at, wtxids_at, kept_size}
use Rattle.places.specs.Places.{Place, hash_words, list_words, place_words, place_key, read_head, blank, HeadAt, HashAt, Pushed}
use Rattle.places.proofs.Segments.{splice_again, quad-in}
use Rattle.places.proofs.Places.{length-place, head_back}

module _ (w : List ℕ) (i : ℕ) where
  -- ---- reads

  -- four words of the i-th place, from its m-th on
  quad_at : (m : ℕ) → m + 4 ≤ place_size → read_quad (drop (i * place_size + m) w) ≡ read_quad (drop m (take place_size (drop (place_size * i) w)))
  quad_at m h =
      ap (λ (a : ℕ). read_quad (drop (a + m) w)) (mul_comm i place_size) ∙ ap read_quad (sym (drop-drop m (place_size * i) w)) ∙ sym (quad-in (drop (place_size * i) w) place_size m h)

  pub word_at : (m : ℕ) → m < place_size → get_or w (i * place_size + m) 0 ≡ get_or (take place_size (drop (place_size * i) w)) m 0
  word_at m h = rw (get_or-take place_size (drop (place_size * i) w) m 0 h, get_or-drop (place_size * i) w m 0, mul_comm place_size i)

  pub head_read : {hash combined : Quad} {stage wtxids parents : ℕ}
      → hash ≡ read_quad (drop (i * place_size) w) → combined ≡ read_quad (drop (i * place_size + combined_at) w) → stage ≡ get_or w (i * place_size + stage_at) 0
      → wtxids ≡ get_or w (i * place_size + wtxid_count_at) 0 → parents ≡ get_or w (i * place_size + parent_count_at) 0
      → ◌≡◌ {A = Head} (record { hash = hash; combined = combined; stage = stage; wtxids = wtxids; parents = parents }) (read_head (take place_size (drop (place_size * i) w)))
  unfolding read_head
  head_read p₀ p₁ p₂ p₃ p₄ =
      let e₀ = ap (λ (a : ℕ). read_quad (drop a w)) (sym (add-zero (i * place_size))) ∙ quad_at 0 (lit≤ tt) in
      rw (p₀, e₀, p₁, quad_at combined_at (lit≤ tt), p₂, word_at stage_at (lit< tt), p₃, word_at wtxid_count_at (lit< tt), p₄, word_at parent_count_at (lit< tt))

  module _ (g : place_size * (i + 1) ≤ length w) where
    pub head_at : {x : Head} → x ≡ read_head (take place_size (drop (place_size * i) w)) → HeadAt w i x
    head_at e = record {
      words_are = e;
      region = λ Q ps d h r. e ∙ ap read_head (holds_at place_size place_words length-place w i g Q ps d h r) ∙ head_back (get_or ps i d);
    }

    pub hash_at_lem : (a : ℕ) (list : Place → List ℕ) (j : ℕ) {x : Quad} → a + list_size ≤ place_size → j < list_most
        → ((p : Place) (k e : ℕ) → k < length (list p) → k < list_most → read_quad (drop (a + 4 * k) (place_words p)) ≡ quad_of (get_or (list p) k e))
        → x ≡ read_quad (drop (i * place_size + (a + j * 4)) w) → HashAt w i a list j x
    hash_at_lem a list j {x} l m law e =
        let c : a + j * 4 ≡ a + 4 * j = rw (mul_comm j 4) in
        let e₁ : x ≡ read_quad (drop (i * place_size + (a + 4 * j)) w) = e ∙ ap (λ (n : ℕ). read_quad (drop (i * place_size + n) w)) c in
        record {
          words_are = e₁ ∙ ap (λ (n : ℕ). read_quad (drop (n + (a + 4 * j)) w)) (mul_comm i place_size);
          region = λ Q ps d k h n r.
              e₁ ∙ quad_at (a + 4 * j) (omega arith)
              ∙ ap (λ (v : List ℕ). read_quad (drop (a + 4 * j) v)) (holds_at place_size place_words length-place w i g Q ps d h r)
              ∙ law (get_or ps i d) j k n m;
        }

    -- ---- a hash put behind a list, and the list's count, at the word c, one more

    pub pushed : {w₁ w₂ : List ℕ} (a c n : ℕ) (list : Place → List ℕ) (with-list : List ℕ → Place → Place) (q : Quad)
        → a + list_size ≤ place_size → c < place_size → n < list_most
        → ((p : Place) → length (list p) ≡ n → splice (splice (place_words p) (a + 4 * n) (quad_words q)) c ((n + 1) ∷ []) ≡ place_words (with-list (list p ++ (quad_number q ∷ [])) p))
        → w₁ ≡ splice w (i * place_size + (a + n * 4)) (quad_words q) → w₂ ≡ set w₁ (i * place_size + c) (n + 1) → Pushed w w₂ i list with-list n (quad_number q)
    pushed {w₁} {w₂} a c n list with-list q l m b law p₁ p₂ =
        let s : place_size * (i + 1) ≡ place_size * i + place_size = omega arith in
        let at : ℕ = place_size * i in
        let old : List ℕ = take place_size (drop at w) in
        let lo : length old ≡ place_size = length-take-le place_size (drop at w) (simp length-drop (omega arith)) in
        let new : List ℕ = splice old (a + 4 * n) (quad_words q) in
        let ln : length new ≡ place_size = length-splice old (a + 4 * n) (quad_words q) (omega arith) ∙ lo in
        let e₁ : w₁ ≡ splice w at new = p₁ ∙ rw (mul_comm i place_size, mul_comm n 4) (splice_in w at place_size (a + 4 * n) (quad_words q) (omega arith) (omega arith)) in
        let lw : length w₁ ≡ length w = ap length e₁ ∙ length-splice w at new (omega arith) in
        let e₂ : w₂ ≡ splice w₁ (at + c) ((n + 1) ∷ []) = p₂ ∙ rw (mul_comm i place_size) (set_one w₁ (at + c) (n + 1) (omega arith)) in
        let e₃ : w₂ ≡ splice w at (splice new c ((n + 1) ∷ [])) = splice_again w at place_size c new ((n + 1) ∷ []) ln (omega arith) (omega arith) e₁ e₂ in
        record {
          region = λ Q ps d h k r.
              let p : Place = get_or ps i d in
              let z : splice new c ((n + 1) ∷ []) ≡ place_words (with-list (list p ++ (quad_number q ∷ [])) p) = rw (holds_at place_size place_words length-place w i g Q ps d h r) (law p k) in
              (replaced place_size place_words length-place w i g (with-list (list p ++ (quad_number q ∷ [])) p) (e₃ ∙ ap (splice w at) z)).region Q ps h r;
        }

-- ---- a new place

no-hashes : list_words [] ≡ replicate list_size 0
unfolding list_words padded each
no-hashes = take_all list_size (replicate list_size 0) (lit≤ tt)

all_zero : replicate {A = ℕ} place_size 0 ≡ replicate wtxids_at 0 ++ (list_words [] ++ (list_words [] ++ replicate kept_size 0))
all_zero = rw no-hashes (sym (rw (replicate-append-replicate {A = ℕ} list_size kept_size 0, replicate-append-replicate {A = ℕ} list_size (list_size + kept_size) 0)
    (replicate-append-replicate {A = ℕ} wtxids_at (list_size + (list_size + kept_size)) 0)))

blank-words : (q : Quad) (st : ℕ) → Small q → splice (splice (replicate place_size 0) 0 (quad_words q)) stage_at (st ∷ []) ≡ place_words (blank (quad_number q) st)
unfolding splice place_words hash_words quad_of
blank-words q st s =
    ap (λ (z : List ℕ). splice (splice z 0 (quad_words q)) stage_at (st ∷ [])) all_zero
    ∙ ap (λ (r : Quad). quad_words r ++ (0 ∷ 0 ∷ 0 ∷ 0 ∷ st ∷ 0 ∷ 0 ∷ (list_words [] ++ (list_words [] ++ replicate kept_size 0)))) (sym (quad-number q s))

module _ (w : List ℕ) (n i : ℕ) (h : i ≤ n) (g : place_size * (n + 1) ≤ length w) where
  pub place-in : {w₁ w₂ w₃ w₄ : List ℕ} (q : Quad) (st : ℕ) → Small q → place_size * (i + 1) ≤ length w₁
      → w₁ ≡ up place_size w (i * place_size) (n * place_size) → w₂ ≡ splice w₁ (i * place_size) (replicate place_size 0)
      → w₃ ≡ splice w₂ (i * place_size) (quad_words q) → w₄ ≡ set w₃ (i * place_size + stage_at) st
      → Inserted place_size place_words w w₄ n i (blank (quad_number q) st)
  place-in {w₁} {w₂} {w₃} {w₄} q st s l p₁ p₂ p₃ p₄ =
      let at : ℕ = i * place_size in
      let c : place_size * (i + 1) ≡ at + place_size = omega arith in
      let z : List ℕ = replicate place_size 0 in
      let lz : length z ≡ place_size = length-replicate {A = ℕ} place_size 0 in
      let y : List ℕ = splice z 0 (quad_words q) in
      let ly : length y ≡ place_size = length-splice z 0 (quad_words q) (omega arith) ∙ lz in
      let e₃ : w₃ ≡ splice w₁ at y = splice_again w₁ at place_size 0 z (quad_words q) lz (omega arith) (lit≤ tt) p₂ (p₃ ∙ ap (λ (m : ℕ). splice w₂ m (quad_words q)) (sym (add-zero at))) in
      let lw : length w₃ ≡ length w₁ = ap length e₃ ∙ length-splice w₁ at y (omega arith) in
      let e₄ : w₄ ≡ splice w₃ (at + stage_at) (st ∷ []) = p₄ ∙ set_one w₃ (at + stage_at) st (omega arith) in
      let e₅ : w₄ ≡ splice w₁ at (splice y stage_at (st ∷ [])) = splice_again w₁ at place_size stage_at y (st ∷ []) ly (omega arith) (lit≤ tt) e₃ e₄ in
      inserted_at place_size place_words length-place w i n (blank (quad_number q) st) h g p₁ (e₅ ∙ rw (blank-words q st s, mul_comm i place_size))

-- the key of the i-th place, as `seek_place` reads it
pub place-key_at : (w : List ℕ) (n i : ℕ) → i < n → get_or (recs place_size place_key n w) i 0 ≡ quad_number (read_quad (drop (i * place_size) w))
place-key_at w n i h =
    recs_at place_size place_key n w i 0 h
    ∙ ap quad_number (quad-in (drop (place_size * i) w) place_size 0 (lit≤ tt) ∙ ap (λ (a : ℕ). read_quad (drop a w)) (mul_comm place_size i))
