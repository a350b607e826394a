-- What the functions of any kind of record do, from what the code does to the words; size is the number of words as the code has it.
use Prim.Native.Nat.{ℕ, ◌+◌, ◌-◌, ◌*◌, ◌≤◌, ◌<◌}
use mathlib.Core.Path.{◌≡◌, sym, ap, ◌∙◌}
use mathlib.Core.List.{List, ◌++◌}
use native.Mathlib.Nat.{mul_comm, mul-le-mul_left}
use native.Mathlib.Omega.{arith}
use lib.ListN.{length, take, drop, replicate}
use Rattle.words.specs.Words.{words, splice, up, down}
use Rattle.words.proofs.Words.{length-words}
use Rattle.words.proofs.Parts.{back_up, back_down}
use Rattle.regions.specs.Regions.{Removed, Replaced, Found, RecordLaws, WholeLaws}
use Rattle.regions.proofs.Gap.{shut_by}
use Rattle.regions.proofs.Regions.{found, replaced, removed_at}

module _ {A : Type 0} {k : ℕ} {enc : A → List ℕ} where
  module _ {dec : List ℕ → A} (laws : WholeLaws k enc dec) (w : List ℕ) (i : ℕ) {size : ℕ} (e : size ≡ k) where
    pub read_found : {x : A} → k * (i + 1) ≤ length w → x ≡ dec (drop (i * size) w) → Found k enc w dec i x
    read_found g p =
        let a : i * size ≡ k * i = rw e (mul_comm i k) in
        found k enc laws.sized w i g dec laws.back (p ∙ ap (λ (j : ℕ). dec (drop j w)) a ∙ sym (laws.own (drop (k * i) w)))

    pub write_replaced : {w' : List ℕ} (x : A) → k * (i + 1) ≤ length w → w' ≡ splice w (i * size) (enc x) → Replaced k enc w w' i x
    write_replaced x g p =
        let a : i * size ≡ k * i = rw e (mul_comm i k) in
        replaced k enc laws.sized w i g x (p ∙ ap (λ (j : ℕ). splice w j (enc x)) a)

  -- a part whose records were moved up, or down, by one, given back
  module _ (laws : RecordLaws k enc) (s p : List ℕ) (i n : ℕ) {size : ℕ} (e : size ≡ k) where
    pub moved_up : i ≤ n → 8 * (k * (n + 1)) ≤ length s → length p ≡ length (take ((n * size + size) * 8 - i * size * 8) (drop (i * size * 8) s))
        → words p ≡ up k (words (take ((n * size + size) * 8 - i * size * 8) (drop (i * size * 8) s))) 0 (n * size - i * size)
        → words (take (i * size * 8) s ++ (p ++ drop ((n * size + size) * 8 - i * size * 8) (drop (i * size * 8) s))) ≡ up k (words s) (i * k) (n * k)
    moved_up h l lp q =
        let c : k * (n + 1) ≡ n * k + k = omega arith in
        let m : i * k ≤ n * k = rw (mul_comm i k, mul_comm n k) (mul-le-mul_left k h) in
        rw e (back_up k s p (i * k) (n * k) m (omega arith) (rw e at lp) (rw e at q))

    -- the words down to `end` moved, and those behind them cleared
    pub moved_down : {w' : List ℕ} → i < n → 8 * (k * n) ≤ length s → length p ≡ length (take ((n * size - size + size) * 8 - i * size * 8) (drop (i * size * 8) s))
        → words p ≡ down k (words (take ((n * size - size + size) * 8 - i * size * 8) (drop (i * size * 8) s))) 0 (n * size - size - i * size)
        → w' ≡ splice (words (take (i * size * 8) s ++ (p ++ drop ((n * size - size + size) * 8 - i * size * 8) (drop (i * size * 8) s)))) (n * size - size) (replicate size 0)
        → Removed k enc (words s) w' n i
    moved_down h l lp q z =
        let b : k * (i + 1) ≤ k * n = mul-le-mul_left k (omega arith) in
        let c : k * (i + 1) ≡ i * k + k = omega arith in
        let d : k * n ≡ n * k = mul_comm k n in
        let f : n * k - k + k ≡ n * k = omega arith in
        let moved = back_down k s p (i * k) (n * k - k) (omega arith) (omega arith) (rw e at lp) (rw e at q) in
        removed_at k enc laws.sized (words s) i n h (omega (arith, length-words s)) (shut_by (words s) k (i * k) (n * k) (omega arith) (omega (arith, length-words s)) moved (rw e at z))
