-- Zeros stored, and a run of zeros told by the bitwise or of its elements.
use Prim.Native.Nat.{ℕ, zero, suc, ◌+◌, ◌-◌, ◌*◌, ◌≤◌, ◌<◌}
use mathlib.Core.Path.{◌≡◌, refl, sym, ap, ◌∙◌}
use mathlib.Core.List.{List, [], ◌∷◌, ◌++◌}
use native.Mathlib.Numerals.{add-one}
use native.Mathlib.Omega.{arith}
use lib.Dec.{eqb, eqb-suc-zero}
use lib.Bits.{bit_or, or_add_and, and_le_l, and_le_r}
use lib.ListN.{length, take, drop, get_or, replicate, length-drop, length-replicate, replicate-append-replicate}
use lib.Seq.{slice, slice_empty, length-slice, take-suc, take_at, get_or_at, drop-append-le, length-take-le}
use Rattle.words.specs.Words.{number, recs, words, splice, Decides}
use Rattle.words.proofs.Parts.{words_append, words_back}

one_word : words (replicate 8 0) ≡ 0 ∷ []
unfolding words recs number
one_word = refl

zero_words : (d : ℕ) → words (replicate (8 * d) 0) ≡ replicate d 0
zero_words zero = unfold words recs in refl
zero_words (suc d) =
    let e : 8 * suc d ≡ 8 + 8 * d = omega arith in
    rw (e, ← replicate-append-replicate {A = ℕ} 8 (8 * d) 0, words_append (replicate 8 0) (replicate (8 * d) 0) refl, one_word, zero_words d) refl

pub cleared : (s p : List ℕ) (a d : ℕ) → 8 * (a + d) ≤ length s → p ≡ replicate (length (take ((a + d) * 8 - a * 8) (drop (a * 8) s))) 0
    → words (take (a * 8) s ++ (p ++ drop ((a + d) * 8 - a * 8) (drop (a * 8) s))) ≡ splice (words s) a (replicate d 0)
unfolding splice
cleared s p a d h q =
    let part : List ℕ = take ((a + d) * 8 - a * 8) (drop (a * 8) s) in
    let n : length part ≡ 8 * d = length-take-le ((a + d) * 8 - a * 8) (drop (a * 8) s) (simp length-drop (omega arith)) ∙ omega arith in
    let z : words p ≡ replicate d 0 = rw (q, n) (zero_words d) in
    let l : length p ≡ length part = rw q (length-replicate (length part) 0) in
    rw (length-replicate d (zero), ← z) (words_back s p a (a + d) (omega arith) h l)

-- ---- a run of zeros

or_left : (a b : ℕ) → bit_or a b ≡ 0 → a ≡ 0
or_left a b e = omega (arith, or_add_and a b, and_le_r a b)

or_right : (a b : ℕ) → bit_or a b ≡ 0 → b ≡ 0
or_right a b e = omega (arith, or_add_and a b, and_le_l a b)

-- what was seen is zero exactly if the elements a .. k are
pub record Seen (w : List ℕ) (a k seen : ℕ) : Type 0 where
  pub zeros : seen ≡ 0 → slice a k w ≡ replicate (k - a) 0
  pub none : slice a k w ≡ replicate (k - a) 0 → seen ≡ 0

pub seen_none : (w : List ℕ) (a : ℕ) → Seen w a a 0
seen_none w a =
    let e : a - a ≡ 0 = omega arith in
    record { zeros = λ _. slice_empty a w ∙ rw e; none = λ _. refl }

-- one element more, at the end
slice_more : (w : List ℕ) (a k : ℕ) → a ≤ k → k < length w → slice a (k + 1) w ≡ slice a k w ++ (get_or w k 0 ∷ [])
slice_more w a k h l =
    let m : a ≤ length (take k w) = omega (arith, length-take-le k w (omega arith)) in
    rw (add-one, take-suc w k 0 l) (drop-append-le a (take k w) (get_or w k 0 ∷ []) m)

zeros_more : (a k : ℕ) → a ≤ k → replicate {A = ℕ} (k + 1 - a) 0 ≡ replicate (k - a) 0 ++ (0 ∷ [])
zeros_more a k h =
    let e : k + 1 - a ≡ k - a + 1 = omega arith in
    rw e (sym (replicate-append-replicate {A = ℕ} (k - a) 1 0))

-- a turn of the loop of `is_zero`
pub seen_turn : (w : List ℕ) (a k : ℕ) {seen v : ℕ} → a ≤ k → k < length w → Seen w a k seen → v ≡ get_or w k 0 → Seen w a (k + 1) (bit_or seen v)
seen_turn w a k {seen} {v} h l s e = record {
  zeros = λ z.
      let q : get_or w k 0 ≡ 0 = sym e ∙ or_right seen v z in
      rw (slice_more w a k h l, zeros_more a k h, s.zeros (or_left seen v z), q);
  none = λ z.
      let u : slice a k w ++ (get_or w k 0 ∷ []) ≡ replicate (k - a) 0 ++ (0 ∷ []) = rw (slice_more w a k h l, zeros_more a k h) at z in
      let m : length (slice a k w) ≡ k - a = length-slice a k w (omega arith) in
      let front : slice a k w ≡ replicate (k - a) 0 =
      sym (take_at (slice a k w) (get_or w k 0 ∷ []) (k - a) m)
      ∙ ap (take (k - a)) u
      ∙ take_at (replicate (k - a) 0) (0 ∷ []) (k - a) (length-replicate (k - a) 0) in
      let last : get_or w k 0 ≡ 0 =
      sym (get_or_at (slice a k w) (get_or w k 0) [] 0 (k - a) m)
      ∙ ap (λ (t : List ℕ). get_or t (k - a) 0) u
      ∙ get_or_at (replicate (k - a) 0) 0 [] 0 (k - a) (length-replicate (k - a) 0) in
      rw (s.none front, e, last);
}

pub seen_decides : {w : List ℕ} {a k seen : ℕ} → Seen w a k seen → Decides (eqb seen 0) (slice a k w ≡ replicate (k - a) 0)
seen_decides {w} {a} {k} {seen} s = go seen s
  where
    go : (n : ℕ) → Seen w a k n → Decides (eqb n 0) (slice a k w ≡ replicate (k - a) 0)
    go zero s = s.zeros refl
    go (suc n) s = rw (eqb-suc-zero n) (λ z. let e : suc n ≡ 0 = s.none z in omega arith)
