-- Numbers and their digits, in any base.
use Prim.Native.Nat.{ℕ, zero, suc, ◌+◌, ◌*◌, ◌/◌, ◌%◌, ◌^◌, ◌≤◌, ◌<◌}
use mathlib.Core.Path.{◌≡◌, refl, ap, ◌∙◌}
use mathlib.Core.List.{List, [], ◌∷◌, ◌++◌}
use native.Mathlib.Nat.{suc-add, mul-le-mul_left, pow-zero, pow-suc, pow-succ', one-mul, mul-add, mul_assoc, add_assoc, add-suc}
use native.Mathlib.Nat.{zero-add, mod-add-div, mod-eq_of_lt, div-eq_of_lt, add-mul-mod_self_left, add-mul-div_left, div-lt_iff_lt-mul}
use native.Mathlib.Omega.{arith}
use lib.ListN.{length, take, drop, get_or}
use lib.Seq.{drop-cons}
use Rattle.words.specs.Words.{number, digits}

module _ (b : ℕ) where
  pub length_digits : (k v : ℕ) → length (digits b k v) ≡ k
  unfolding digits
  length_digits zero v = refl
  length_digits (suc k) v = ap suc (length_digits k (v / b))

  module _ (p : 0 < b) where
    pub number_digits : (k v : ℕ) → v < b ^ k → number b (digits b k v) ≡ v
    unfolding number digits
    number_digits zero v h = let e : b ^ 0 ≡ 1 = pow-zero b in omega arith
    number_digits (suc k) v h = rw (number_digits k (v / b) ((div-lt_iff_lt-mul p).1 (rw pow-suc at h))) (mod-add-div v b)

    pub digits_number : (s : List ℕ) → ((i : ℕ) → i < length s → get_or s i 0 < b) → digits b (length s) (number b s) ≡ s
    unfolding number digits
    digits_number [] h = refl
    digits_number (d ∷ ds) h =
        let l : d < b = h 0 (omega arith) in
        let e₁ : (d + b * number b ds) % b ≡ d = add-mul-mod_self_left d b (number b ds) ∙ mod-eq_of_lt l in
        let e₂ : (d + b * number b ds) / b ≡ number b ds = add-mul-div_left d (number b ds) p ∙ rw (div-eq_of_lt l, zero-add) in
        rw (e₁, e₂, digits_number ds (λ i m. h (suc i) (omega arith)))

    -- a number below b ^ m, and above it another: the digits of the one, then those of the other
    pub digits-add : (m k l h : ℕ) → l < b ^ m → digits b (m + k) (l + b ^ m * h) ≡ digits b m l ++ digits b k h
    unfolding digits
    digits-add zero k l h g =
        let e : b ^ 0 ≡ 1 = pow-zero b in
        let z : l ≡ 0 = omega arith in
        rw (z, e, one-mul, zero-add k, zero-add h)
    digits-add (suc m) k l h g =
        let q : l / b < b ^ m = (div-lt_iff_lt-mul p).1 (rw pow-suc at g) in
        rw (suc-add, pow-succ' b m, mul_assoc b (b ^ m) h, add-mul-mod_self_left l b (b ^ m * h), add-mul-div_left l (b ^ m * h) p, digits-add m k (l / b) h q)

  pub number_below : (s : List ℕ) → ((i : ℕ) → i < length s → get_or s i 0 < b) → number b s < b ^ length s
  unfolding number
  number_below [] h = let e : b ^ 0 ≡ 1 = pow-zero b in omega arith
  number_below (d ∷ ds) h =
      let l : d < b = h 0 (omega arith) in
      let m : b * suc (number b ds) ≤ b * b ^ length ds = mul-le-mul_left b (number_below ds (λ i g. h (suc i) (omega arith))) in
      let e : b * suc (number b ds) ≡ b + b * number b ds = omega arith in
      rw (pow-succ' b (length ds)) (omega arith)

-- the digits that lie in a row from a on, one at a time
pub number_step : (b : ℕ) (s : List ℕ) (a j n : ℕ) → a + j < length s
    → number b (take (suc n) (drop (a + j) s)) ≡ get_or s (a + j) 0 + b * number b (take n (drop (a + suc j) s))
unfolding number
number_step b s a j n h = rw (drop-cons s (a + j) 0 h, add-suc a j)

-- the digits of two lists, one after the other
pub number_append : (b : ℕ) (p q : List ℕ) → number b (p ++ q) ≡ number b p + b ^ length p * number b q
unfolding number
number_append b [] q = rw (pow-zero b, one-mul, zero-add)
number_append b (d ∷ p) q = rw (number_append b p q, pow-succ' b (length p), mul-add, add_assoc, mul_assoc)
