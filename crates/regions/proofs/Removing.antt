-- Several records taken out of a region at once.
use Prim.Native.Nat.{ℕ, ◌+◌, ◌-◌, ◌*◌, ◌≤◌}
use mathlib.Core.Path.{◌≡◌, sym, ap, ◌∙◌}
use mathlib.Core.List.{List, ◌++◌, append_assoc}
use native.Mathlib.Nat.{mul_comm}
use native.Mathlib.Omega.{arith}
use lib.ListN.{length, take, drop, length-append, length-drop, take-append-drop}
use lib.Seq.{take-take, length-take-le}
use Rattle.regions.specs.Regions.{each, padded, remove_range, shut, RangeRemoved}
use Rattle.regions.proofs.Regions.{length-padded, padded-shut, each_append, length_each}

-- a list as what stands before a range, in it, and behind it
pub range_split : {A : Type 0} (l : List A) (from to : ℕ) → from ≤ to → l ≡ take from l ++ (drop from (take to l) ++ drop to l)
range_split l from to h =
    let e : take to l ≡ take from l ++ drop from (take to l) = sym (take-append-drop from (take to l)) ∙ ap (λ x. x ++ drop from (take to l)) (take-take from to l h) in
    sym (take-append-drop to l) ∙ ap (λ x. x ++ drop to l) e ∙ append_assoc (take from l) (drop from (take to l)) (drop to l)

module _ {A : Type 0} (k : ℕ) (enc : A → List ℕ) (len : (a : A) → length (enc a) ≡ k) where
  region-range : (l : List A) (from to n : ℕ) → from ≤ to → to ≤ length l → k * length l ≤ n
      → shut (k * (to - from)) (k * from) (k * length l) (padded n (each enc l)) ≡ padded n (each enc (remove_range from to l))
  unfolding remove_range
  region-range l from to n h g m =
      let a : List ℕ = each enc (take from l) in
      let x : List ℕ = each enc (drop from (take to l)) in
      let b : List ℕ = each enc (drop to l) in
      let u : each enc l ≡ a ++ (x ++ b) = ap (each enc) (range_split l from to h) ∙ each_append enc (take from l) _ ∙ ap (λ y. a ++ y) (each_append enc (drop from (take to l)) (drop to l)) in
      let la : length a ≡ k * from = length_each k enc len (take from l) ∙ ap (λ j. k * j) (length-take-le from l (omega arith)) in
      let lx : length x ≡ k * (to - from) = length_each k enc len (drop from (take to l)) ∙ ap (λ j. k * j) (length-drop from (take to l) ∙ ap (λ j. j - from) (length-take-le to l g)) in
      let all : length a + (length x + length b) ≡ k * length l = rw (← (length_each k enc len l), u) (sym (length-append a (x ++ b) ∙ ap (λ j. length a + j) (length-append x b))) in
      let q = padded-shut a b x n (omega arith) in
      rw (u, each_append enc (take from l) (drop to l)) (rw (lx, la) at (rw all at q))

  pub range_removed : (w : List ℕ) {w' : List ℕ} (n from to : ℕ) → from ≤ to → to ≤ n → k * n ≤ length w → w' ≡ shut ((to - from) * k) (from * k) (n * k) w → RangeRemoved k enc w w' n from to
  range_removed w n from to h g m e =
      let e₁ = rw (mul_comm (to - from) k, mul_comm from k, mul_comm n k) at e in
      record {
        words_are = e₁;
        region = λ L xs l r.
            let room : length w ≡ k * L = ap length r ∙ length-padded (k * L) (each enc xs) in
            let b : k * length xs ≤ k * L = rw (l, ← room) m in
            e₁ ∙ rw (← l, r) (region-range xs from to (k * L) h (omega arith) b);
      }
