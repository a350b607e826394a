-- Two lists of hashes compared, one pair after the other.
use Prim.Native.Nat.{ℕ, zero, suc, ◌+◌, ◌<◌}
use mathlib.Core.Path.{◌≡◌, refl, sym, ap, ◌∙◌}
use mathlib.Core.Bool.{Bool, true, false, ◌&&◌, and-false}
use mathlib.Core.List.{List, [], ◌∷◌}
use native.Mathlib.Numerals.{add-one}
use native.Mathlib.Omega.{arith}
use lib.Dec.{eqb}
use lib.ListN.{length, get_or, drop}
use borrow.Author.Tests.{eqb-true}
use Rattle.std.specs.List.{list_all, range_with_len}
use Rattle.machine.specs.Package.{same_list}
use Rattle.machine.proofs.Tests.{never, and_left, and_right}

pub same_equal : (a b : List ℕ) → same_list a b ≡ true → a ≡ b
unfolding same_list
same_equal [] [] e = refl
same_equal [] (y ∷ b) e = never e
same_equal (x ∷ a) [] e = never e
same_equal (x ∷ a) (y ∷ b) e = ap (λ (l : List ℕ). x ∷ l) (same_equal a b (and_right (eqb x y) _ e)) ∙ ap (λ (z : ℕ). z ∷ b) (eqb-true x y (and_left (eqb x y) (same_list a b) e))

lengths_differ : (a b : List ℕ) → (length a ≡ length b → ⊥) → same_list a b ≡ false
unfolding same_list
lengths_differ [] [] n = absurd (n refl)
lengths_differ [] (y ∷ b) n = refl
lengths_differ (x ∷ a) [] n = refl
lengths_differ (x ∷ a) (y ∷ b) n = rw (lengths_differ a b (λ e. n (ap suc e))) (and-false (eqb x y))

step : (a b : List ℕ) (j : ℕ) → j < length a → j < length b → same_list (drop j a) (drop j b) ≡ (eqb (get_or a j 0) (get_or b j 0) && same_list (drop (suc j) a) (drop (suc j) b))
unfolding same_list
step [] b j h l = absurd (omega arith)
step (x ∷ a) [] j h l = absurd (omega arith)
step (x ∷ a) (y ∷ b) zero h l = refl
step (x ∷ a) (y ∷ b) (suc j) h l = step a b j (omega arith) (omega arith)

ended : (a b : List ℕ) (j : ℕ) → length a ≡ j → length b ≡ j → same_list (drop j a) (drop j b) ≡ true
unfolding same_list
ended [] [] zero h l = refl
ended [] [] (suc j) h l = refl
ended [] (y ∷ b) j h l = absurd (omega arith)
ended (x ∷ a) [] j h l = absurd (omega arith)
ended (x ∷ a) (y ∷ b) zero h l = absurd (omega arith)
ended (x ∷ a) (y ∷ b) (suc j) h l = ended a b j (omega arith) (omega arith)

-- a hash that was read, compared with one given
pub compared : {r v : Bool} {x y z w : ℕ} → r ≡ eqb x y → x ≡ z → y ≡ w → r ≡ v → eqb z w ≡ v
compared e p q t = cc

-- the j-th of both are the same
abbrev pub same_at : List ℕ → List ℕ → ℕ → Bool
same_at a b j = eqb (get_or a j 0) (get_or b j 0)

same_from : (a b : List ℕ) (n i : ℕ) → i + n ≡ length a → i + n ≡ length b → list_all (same_at a b) (range_with_len i n) ≡ same_list (drop i a) (drop i b)
same_from a b zero i h l = sym (ended a b i (omega arith) (omega arith))
same_from a b (suc n) i h l = ap (λ (t : Bool). same_at a b i && t) (same_from a b n (i + 1) (omega arith) (omega arith)) ∙ rw add-one (sym (step a b i (omega arith) (omega arith)))

module _ (x c : ℕ) (a b : List ℕ) where
  pub other_hash : eqb x c ≡ false → false ≡ (eqb x c && same_list a b)
  other_hash e = rw e refl

  module _ (e : eqb x c ≡ true) where
    pub other_length : (length a ≡ length b → ⊥) → false ≡ (eqb x c && same_list a b)
    other_length n = rw e (sym (lengths_differ a b n))

    pub same_by : (n : ℕ) → n ≡ length a → n ≡ length b → list_all (same_at a b) (range_with_len 0 n) ≡ (eqb x c && same_list a b)
    same_by n h l = rw e (same_from a b n 0 (omega arith) (omega arith))
