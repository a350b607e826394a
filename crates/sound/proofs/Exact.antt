-- A place's words are those that the place read from them is written as, exactly if zeros stand behind its lists.
use Prim.Native.Nat.{ℕ, zero, suc, ◌+◌, ◌-◌, ◌*◌, ◌≤◌, ◌<◌}
use mathlib.Core.Path.{◌≡◌, refl, sym, ap, ◌∙◌}
use mathlib.Core.List.{List, [], ◌∷◌, ◌++◌, append_cancel_left}
use native.Mathlib.Omega.{arith}
use lib.ListN.{length, take, drop, get_or, replicate, length-drop, take-append-drop}
use lib.Seq.{slice, take-add, take-take, take_all, drop-drop, take_at, drop_at, length-take-le, get_or-drop}
use Rattle.words.specs.Words.{recs}
use Rattle.words.proofs.Records.{length-recs}
use Rattle.words.proofs.Moves.{mid as drop-take}
use Rattle.regions.specs.Regions.{each, padded}
use Rattle.regions.specs.Rows.{quad_words, read_quad}
use Rattle.regions.proofs.Regions.{length-padded, padded-fit}
use Rattle.places.specs.Places.{place_size, kept_size, list_most, hash_words, list_words, place_words}
use Rattle.machine.specs.Limits.{word}
use Rattle.store.specs.Read.{read_hash, read_place}
use Rattle.store.proofs.Quads.{quad-number}
use Rattle.sound.specs.Places.{kept_at, Padded}
use Rattle.sound_rows.proofs.Decide.{Iff}
use Rattle.sound_rows.proofs.Ranges.{Below, below_take, below_drop, quad_ranges}

-- ---- records that are determined by their words

pub each_back : {A : Type 0} (k : ℕ) (enc : A → List ℕ) (dec : List ℕ → A) → ((u : List ℕ) → length u ≡ k → Below word u → enc (dec u) ≡ u)
    → (n : ℕ) (w : List ℕ) → k * n ≤ length w → Below word w → each enc (recs k dec n w) ≡ take (k * n) w
unfolding each recs
each_back k enc dec f zero w h b = let e : k * 0 ≡ 0 = omega arith in rw e
each_back k enc dec f (suc n) w h b =
    let e : k * suc n ≡ k + k * n = omega arith in
    let l : length (take k w) ≡ k = length-take-le k w (omega arith) in
    let m : k * n ≤ length (drop k w) = simp length-drop (omega arith) in
    rw (e, take-add k (k * n) w, f (take k w) l (below_take word k w (omega arith) b), each_back k enc dec f n (drop k w) m (below_drop word k w b))

four : (u : List ℕ) → length u ≡ 4 → quad_words (read_quad u) ≡ u
four [] e = absurd (omega arith)
four (a ∷ []) e = absurd (omega arith)
four (a ∷ b ∷ []) e = absurd (omega arith)
four (a ∷ b ∷ c ∷ []) e = absurd (omega arith)
four (a ∷ b ∷ c ∷ d ∷ []) e = refl
four (a ∷ b ∷ c ∷ d ∷ x ∷ u) e = absurd (omega arith)

pub hash-words : (u : List ℕ) → length u ≡ 4 → Below word u → hash_words (read_hash u) ≡ u
unfolding hash_words read_hash
hash-words u e b = rw (quad-number (read_quad u) (quad_ranges u b)) (four u e)

-- ---- a list of hashes with zeros behind it

module _ (v : List ℕ) (a c m : ℕ) (h : 4 * c ≤ m) (l : a + m ≤ length v) (b : Below word v) where
  len : length (drop a v) ≡ length v - a
  len = length-drop a v

  front : take m (drop a v) ≡ take (4 * c) (drop a v) ++ slice (a + c * 4) (a + m) v
  front =
      let e : c * 4 ≡ 4 * c = omega arith in
      let s : slice (a + c * 4) (a + m) v ≡ drop (4 * c) (take m (drop a v)) = rw e (sym (drop-drop (4 * c) a (take (a + m) v)) ∙ ap (drop (4 * c)) (drop-take a m v (omega arith))) in
      sym (take-append-drop (4 * c) (take m (drop a v))) ∙ rw (s, take-take (4 * c) m (drop a v) h)

  list_is : padded m (each hash_words (recs 4 read_hash c (drop a v))) ≡ take (4 * c) (drop a v) ++ replicate (a + m - (a + c * 4)) 0
  list_is =
      let g : 4 * c ≤ length (drop a v) = omega (arith, len) in
      let e : each hash_words (recs 4 read_hash c (drop a v)) ≡ take (4 * c) (drop a v) = each_back 4 hash_words read_hash hash-words c (drop a v) g (below_drop word a v b) in
      let t : length (take (4 * c) (drop a v)) ≡ 4 * c = length-take-le (4 * c) (drop a v) g in
      let d : m - 4 * c ≡ a + m - (a + c * 4) = omega arith in
      rw (e, padded-fit m (take (4 * c) (drop a v)) (omega arith), t, d)

  pub list_iff : Iff (take m (drop a v) ≡ padded m (each hash_words (recs 4 read_hash c (drop a v)))) (slice (a + c * 4) (a + m) v ≡ replicate (a + m - (a + c * 4)) 0)
  list_iff = record {
    to = λ q. append_cancel_left (take (4 * c) (drop a v)) _ _ (sym front ∙ q ∙ list_is);
    from = λ z. front ∙ ap (λ (u : List ℕ). take (4 * c) (drop a v) ++ u) z ∙ sym list_is;
  }

-- ---- the whole

pub cut_iff : (n : ℕ) (v a b : List ℕ) → length a ≡ n → Iff (v ≡ a ++ b) ((take n v ≡ a) × (drop n v ≡ b))
cut_iff n v a b e = record {
  to = λ q. (ap (take n) q ∙ take_at a b n e, ap (drop n) q ∙ drop_at a b n e);
  from = λ p. sym (take-append-drop n v) ∙ rw (p.0, p.1);
}

three : (v : List ℕ) (i : ℕ) → i + 3 ≤ length v → take 3 (drop i v) ≡ get_or v i 0 ∷ get_or v (i + 1) 0 ∷ get_or v (i + 2) 0 ∷ []
three v i h = lib.Seq.ext_get_or 0 _ _ l at
  where
    l : length (take 3 (drop i v)) ≡ 3
    l = length-take-le 3 (drop i v) (simp length-drop (omega arith))

    at : (j : ℕ) → j < length (take 3 (drop i v)) → get_or (take 3 (drop i v)) j 0 ≡ get_or (get_or v i 0 ∷ get_or v (i + 1) 0 ∷ get_or v (i + 2) 0 ∷ []) j 0
    at zero k = let e : i + 0 ≡ i = omega arith in lib.Seq.get_or-take 3 (drop i v) 0 0 (omega arith) ∙ get_or-drop i v 0 0 ∙ rw e
    at (suc zero) k = lib.Seq.get_or-take 3 (drop i v) 1 0 (omega arith) ∙ get_or-drop i v 1 0
    at (suc (suc zero)) k = lib.Seq.get_or-take 3 (drop i v) 2 0 (omega arith) ∙ get_or-drop i v 2 0
    at (suc (suc (suc j))) k = absurd (omega (arith, l))

module _ (v : List ℕ) (l : length v ≡ place_size) (b : Below word v) (m : get_or v 9 0 ≤ list_most) (n : get_or v 10 0 ≤ list_most) where
  part : (a : ℕ) → length (drop a v) ≡ place_size - a
  part a = length-drop a v ∙ ap (λ (x : ℕ). x - a) l

  hash_part : (a : ℕ) → a + 4 ≤ place_size → take 4 (drop a v) ≡ hash_words (read_hash (drop a v))
  unfolding read_hash
  hash_part a h =
      let t : length (take 4 (drop a v)) ≡ 4 = length-take-le 4 (drop a v) (omega (arith, part a)) in
      sym (hash-words (take 4 (drop a v)) t (below_take word 4 (drop a v) (omega arith) (below_drop word a v b)))
      ∙ rw (Rattle.sound.proofs.Hashes.quad_take (drop a v))

  counts : take 3 (drop 8 v) ≡ get_or v 8 0 ∷ length (recs 4 read_hash (get_or v 9 0) (drop 11 v)) ∷ length (recs 4 read_hash (get_or v 10 0) (drop 411 v)) ∷ []
  counts = three v 8 (omega arith) ∙ rw (length-recs 4 read_hash (get_or v 9 0) (drop 11 v), length-recs 4 read_hash (get_or v 10 0) (drop 411 v))

  abbrev H : List ℕ
  H = hash_words (read_hash v)

  abbrev C : List ℕ
  C = hash_words (read_hash (drop 4 v))

  abbrev S : List ℕ
  S = get_or v 8 0 ∷ length (recs 4 read_hash (get_or v 9 0) (drop 11 v)) ∷ length (recs 4 read_hash (get_or v 10 0) (drop 411 v)) ∷ []

  abbrev W : List ℕ
  W = padded 400 (each hash_words (recs 4 read_hash (get_or v 9 0) (drop 11 v)))

  abbrev P : List ℕ
  P = padded 400 (each hash_words (recs 4 read_hash (get_or v 10 0) (drop 411 v)))

  abbrev K : List ℕ
  K = replicate kept_size 0

  length-hash : (h : ℕ) → length (hash_words h) ≡ 4
  unfolding hash_words
  length-hash h = refl

  place_is : place_words (read_place v) ≡ H ++ (C ++ (S ++ (W ++ (P ++ K))))
  unfolding place_words read_place list_words
  place_is = refl

  kept_is : slice kept_at place_size v ≡ drop 400 (drop 411 v)
  kept_is = rw (take_all place_size v (omega arith)) (sym (drop-drop 400 411 v))

  pub place_iff : Iff (v ≡ place_words (read_place v)) (Padded v (get_or v 9 0) (get_or v 10 0))
  place_iff = record { to = λ q. out (q ∙ place_is); from = λ z. back z ∙ sym place_is }
    where
      out : v ≡ H ++ (C ++ (S ++ (W ++ (P ++ K)))) → Padded v (get_or v 9 0) (get_or v 10 0)
      out q =
          let q₁ = ((cut_iff 4 v H (C ++ (S ++ (W ++ (P ++ K)))) (length-hash _)).to q).1 in
          let q₂ = sym (drop-drop 4 4 v) ∙ ((cut_iff 4 (drop 4 v) C (S ++ (W ++ (P ++ K))) (length-hash _)).to q₁).1 in
          let q₃ = sym (drop-drop 3 8 v) ∙ ((cut_iff 3 (drop 8 v) S (W ++ (P ++ K)) refl).to q₂).1 in
          let q₄ = (cut_iff 400 (drop 11 v) W (P ++ K) (length-padded 400 _)).to q₃ in
          let q₅ = (cut_iff 400 (drop 411 v) P K (length-padded 400 _)).to (sym (drop-drop 400 11 v) ∙ q₄.1) in
          record {
            wtxids = (list_iff v 11 (get_or v 9 0) 400 (omega arith) (omega arith) b).to q₄.0;
            parents = (list_iff v 411 (get_or v 10 0) 400 (omega arith) (omega arith) b).to q₅.0;
            kept = kept_is ∙ q₅.1;
          }

      back : Padded v (get_or v 9 0) (get_or v 10 0) → v ≡ H ++ (C ++ (S ++ (W ++ (P ++ K))))
      back z =
          let p₅ = (cut_iff 400 (drop 411 v) P K (length-padded 400 _)).from ((list_iff v 411 (get_or v 10 0) 400 (omega arith) (omega arith) b).from z.parents, sym kept_is ∙ z.kept) in
          let p₄ = (cut_iff 400 (drop 11 v) W (P ++ K) (length-padded 400 _)).from ((list_iff v 11 (get_or v 9 0) 400 (omega arith) (omega arith) b).from z.wtxids, drop-drop 400 11 v ∙ p₅) in
          let p₃ = (cut_iff 3 (drop 8 v) S (W ++ (P ++ K)) refl).from (counts, drop-drop 3 8 v ∙ p₄) in
          let p₂ = (cut_iff 4 (drop 4 v) C (S ++ (W ++ (P ++ K))) (length-hash _)).from (hash_part 4 (omega arith), drop-drop 4 4 v ∙ p₃) in
          (cut_iff 4 v H (C ++ (S ++ (W ++ (P ++ K)))) (length-hash _)).from (hash_part 0 (omega arith), p₂)
