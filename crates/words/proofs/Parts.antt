-- The words of a part that is lent, and of the whole when the part has come back.
use Prim.Native.Nat.{ℕ, ◌+◌, ◌-◌, ◌*◌, ◌/◌, ◌%◌, ◌≤◌}
use mathlib.Core.Path.{◌≡◌, sym, ap, ◌∙◌}
use mathlib.Core.List.{List, ◌++◌}
use native.Mathlib.Omega.{arith}
use lib.ListN.{length, take, drop, length-append, length-take, length-drop}
use lib.Seq.{paste, drop_at, drop-drop, length-take-le}
use Rattle.words.specs.Words.{number, words, up, down}
use Rattle.words.proofs.Records.{recs-add, recs_front, recs-take, take-recs, drop-recs}
use Rattle.words.proofs.Words.{length-words}
use Rattle.words.proofs.Moves.{up_part, down_part}

pub words_append : (a b : List ℕ) → length a % 8 ≡ 0 → words (a ++ b) ≡ words a ++ words b
unfolding words
words_append a b h =
    let n : ℕ = length a / 8 in
    let e : length (a ++ b) / 8 ≡ n + length b / 8 = simp length-append (omega arith) in
    let l : length a ≡ 8 * n = omega arith in
    rw (e, recs-add 8 (number 256) n (length b / 8) (a ++ b), recs_front 8 (number 256) n a b (omega arith), drop_at a b (8 * n) l)

pub words_take : (s : List ℕ) (k : ℕ) → 8 * k ≤ length s → words (take (8 * k) s) ≡ take k (words s)
unfolding words
words_take s k h =
    let e : length (take (8 * k) s) / 8 ≡ k = simp length-take (omega arith) in
    rw e (recs-take 8 (number 256) k s h ∙ sym (take-recs 8 (number 256) k (length s / 8) s (omega arith)))

pub words-drop : (s : List ℕ) (k : ℕ) → 8 * k ≤ length s → words (drop (8 * k) s) ≡ drop k (words s)
unfolding words
words-drop s k h =
    let e : length (drop (8 * k) s) / 8 ≡ length s / 8 - k = simp length-drop (omega arith) in
    rw e (sym (drop-recs 8 (number 256) k (length s / 8) s (omega arith)))

-- the words of bytes that stand further on as well, as `copy_within` leaves them
pub words_paste : (s : List ℕ) (to from m : ℕ) → 8 * (to + m) ≤ length s → 8 * (from + m) ≤ length s
    → words (paste s (to * 8) (drop (from * 8) s) (m * 8)) ≡ paste (words s) to (drop from (words s)) m
words_paste s to from m h l =
    let e₁ : to * 8 ≡ 8 * to = omega arith in
    let e₂ : from * 8 ≡ 8 * from = omega arith in
    let e₃ : m * 8 ≡ 8 * m = omega arith in
    let e₄ : 8 * to + 8 * m ≡ 8 * (to + m) = omega arith in
    let x : List ℕ = drop (8 * from) s in
    let lx : length x ≡ length s - 8 * from = length-drop (8 * from) s in
    let l₁ : length (take (8 * to) s) ≡ 8 * to = length-take-le (8 * to) s (omega arith) in
    let l₂ : length (take (8 * m) x) ≡ 8 * m = length-take-le (8 * m) x (omega arith) in
    let l₃ : length (take (8 * to) s ++ take (8 * m) x) % 8 ≡ 0 = simp length-append (omega arith) in
    rw (
      e₁,
      e₂,
      e₃,
      e₄,
      words_append (take (8 * to) s ++ take (8 * m) x) (drop (8 * (to + m)) s) l₃,
      words_append (take (8 * to) s) (take (8 * m) x) (omega arith),
      words_take s to (omega arith),
      words_take x m (omega arith),
      words-drop s from (omega arith),
      words-drop s (to + m) h,
    )

-- the words of a part that is lent, `&mut s[a * 8..e * 8]`
pub words-lent : (s : List ℕ) (a e : ℕ) → a ≤ e → 8 * e ≤ length s
    → words (take (e * 8 - a * 8) (drop (a * 8) s)) ≡ take (e - a) (drop a (words s))
words-lent s a e h l =
    let e₁ : a * 8 ≡ 8 * a = omega arith in
    let e₂ : e * 8 - a * 8 ≡ 8 * (e - a) = omega arith in
    let lm : 8 * (e - a) ≤ length (drop (8 * a) s) = simp length-drop (omega arith) in
    rw (e₂, e₁, words_take (drop (8 * a) s) (e - a) lm, words-drop s a (omega arith))

-- and the words of the whole, where the part has come back as p
pub words_back : (s p : List ℕ) (a e : ℕ) → a ≤ e → 8 * e ≤ length s → length p ≡ length (take (e * 8 - a * 8) (drop (a * 8) s))
    → words (take (a * 8) s ++ (p ++ drop (e * 8 - a * 8) (drop (a * 8) s))) ≡ take a (words s) ++ (words p ++ drop e (words s))
words_back s p a e h l lp =
    let e₁ : a * 8 ≡ 8 * a = omega arith in
    let e₂ : e * 8 - a * 8 ≡ 8 * (e - a) = omega arith in
    let ld : length (drop (8 * a) s) ≡ length s - 8 * a = length-drop (8 * a) s in
    let lm : 8 * (e - a) ≤ length (drop (8 * a) s) = omega arith in
    let l₁ : length (take (8 * a) s) % 8 ≡ 0 = simp length-take (omega arith) in
    let l₂ : length p ≡ 8 * (e - a) = rw (e₂, e₁) at lp ∙ length-take-le (8 * (e - a)) (drop (8 * a) s) lm in
    let g : a + (e - a) ≡ e = omega arith in
    let z : List ℕ = drop (8 * (e - a)) (drop (8 * a) s) in
    let r : words z ≡ drop e (words s) =
    words-drop (drop (8 * a) s) (e - a) lm ∙ ap (drop (e - a)) (words-drop s a (omega arith)) ∙ drop-drop (e - a) a (words s) ∙ ap (λ (k : ℕ). drop k (words s)) g in
    rw (e₂, e₁, words_append (take (8 * a) s) (p ++ z) l₁, words_append p z (omega arith), words_take s a (omega arith), r)

-- a part whose words were moved up, or down, by d
module _ (d : ℕ) (s p : List ℕ) (a b : ℕ) (h : a ≤ b) (l : 8 * (b + d) ≤ length s) (lp : length p ≡ length (take ((b + d) * 8 - a * 8) (drop (a * 8) s))) where
  pub back_up : words p ≡ up d (words (take ((b + d) * 8 - a * 8) (drop (a * 8) s))) 0 (b - a)
      → words (take (a * 8) s ++ (p ++ drop ((b + d) * 8 - a * 8) (drop (a * 8) s))) ≡ up d (words s) a b
  back_up q =
      let e : b + d - a ≡ b - a + d = omega arith in
      let g : a + (b - a) ≡ b = omega arith in
      let q' = rw (words-lent s a (b + d) (omega arith) l, e) at q in
      words_back s p a (b + d) (omega arith) l lp ∙ rw q' (rw g at (up_part d (words s) a (b - a) (omega (arith, length-words s))))

  pub back_down : words p ≡ down d (words (take ((b + d) * 8 - a * 8) (drop (a * 8) s))) 0 (b - a)
      → words (take (a * 8) s ++ (p ++ drop ((b + d) * 8 - a * 8) (drop (a * 8) s))) ≡ down d (words s) a b
  back_down q =
      let e : b + d - a ≡ b - a + d = omega arith in
      let g : a + (b - a) ≡ b = omega arith in
      let q' = rw (words-lent s a (b + d) (omega arith) l, e) at q in
      words_back s p a (b + d) (omega arith) l lp ∙ rw q' (rw g at (down_part d (words s) a (b - a) (omega (arith, length-words s))))
