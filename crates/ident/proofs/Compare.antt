-- The order of two numbers, and of two numbers that are each made of a high part and a low part below K: it is the order of the high parts, and where those are equal that of the low.
use mathlib.Core.Path.{◌≡◌, refl, sym, ◌∙◌, ap}
use Prim.Native.Nat.{ℕ, suc, ◌+◌, ◌*◌, ◌<◌, ◌≤◌}
use mathlib.Core.List.{List, ◌∷◌}
use native.Mathlib.Nat.{mul-le-mul_left}
use native.Mathlib.Omega.{arith}
use mathlib.Core.Bool.{Bool, true, false}
use mathlib.Core.Logic.{◌⊎◌, inl, inr, ⊎_elim}
use lib.Dec.{ltb}
use borrow.Author.Tests.{ltb-true, ltb-false}
use Rattle.std.specs.declared.cmp.Ordering.{Ordering}
use Rattle.std.specs.declared.cmp.Ordering.TheVariants.{Less, Equal, Greater}
use Rattle.std.specs.Cmp.{nat_cmp_is}
use Rattle.std.specs.Ordering.{nat_cmp, ordering_then}
use Rattle.words.specs.Words.{number}

pub either : (t : Bool) → (t ≡ true) ⊎ (t ≡ false)
either true = inl refl
either false = inr refl

-- one of two numbers is less, or they are equal
pub three : (m n : ℕ) → (m < n) ⊎ ((n < m) ⊎ (m ≡ n))
three m n = ⊎_elim (λ e. inl (ltb-true m n e)) (λ e. ⊎_elim (λ e'. inr (inl (ltb-true n m e'))) (λ e'. inr (inr (same (ltb-false m n e) (ltb-false n m e')))) (either (ltb n m))) (either (ltb m n))
  where
    same : n ≤ m → m ≤ n → m ≡ n
    same h h' = omega (arith, h, h')

pub is-less : (m n : ℕ) → m < n → nat_cmp m n ≡ Less
is-less m n h = sym (nat_cmp_is m n Less h)

pub is_more : (m n : ℕ) → n < m → nat_cmp m n ≡ Greater
is_more m n h = sym (nat_cmp_is m n Greater h)

pub is_same : (m n : ℕ) → m ≡ n → nat_cmp m n ≡ Equal
is_same m n h = sym (nat_cmp_is m n Equal h)

-- a greater high part is more than any low part makes up for
above : (K l l' h h' : ℕ) → l < K → h < h' → l + K * h < l' + K * h'
above K l l' h h' g less =
    let m : K * suc h ≤ K * h' = mul-le-mul_left K less in
    let e : K * suc h ≡ K + K * h = omega arith in
    omega arith

-- the order is that of the high parts, and then of the low
pub by_parts : (K l l' h h' : ℕ) → l < K → l' < K → ordering_then (nat_cmp h h') (nat_cmp l l') ≡ nat_cmp (l + K * h) (l' + K * h')
by_parts K l l' h h' g g' =
    ⊎_elim (λ less. ap (λ (o : Ordering). ordering_then o (nat_cmp l l')) (is-less h h' less) ∙ sym (is-less _ _ (above K l l' h h' g less)))
    (⊎_elim (λ more. ap (λ (o : Ordering). ordering_then o (nat_cmp l l')) (is_more h h' more) ∙ sym (is_more _ _ (above K l' l h' h g' more)))
    (λ same. ap (λ (o : Ordering). ordering_then o (nat_cmp l l')) (is_same h h' same) ∙ low (K * h) (K * h') (ap (λ (x : ℕ). K * x) same)))
    (three h h')
  where
    low : (p q : ℕ) → p ≡ q → nat_cmp l l' ≡ nat_cmp (l + p) (l' + q)
    low p q e =
        ⊎_elim (λ less. is-less l l' less ∙ sym (is-less (l + p) (l' + q) (omega (arith, e, less))))
        (⊎_elim (λ more. is_more l l' more ∙ sym (is_more (l + p) (l' + q) (omega (arith, e, more))))
        (λ same. is_same l l' same ∙ sym (is_same (l + p) (l' + q) (omega (arith, e, same)))))
        (three l l')

-- numbers are in the order of the digits above the lowest, and then of that
pub by_digit : (b d d' : ℕ) (ds ds' : List ℕ) → d < b → d' < b → ordering_then (nat_cmp (number b ds) (number b ds')) (nat_cmp d d') ≡ nat_cmp (number b (d ∷ ds)) (number b (d' ∷ ds'))
unfolding number
by_digit b d d' ds ds' = by_parts b d d' (number b ds) (number b ds')
