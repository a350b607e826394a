-- Numbers written and read, in any base to 16: what was written is read back, and what is accepted is the one text of its value.
use Prim.Native.Nat.{ℕ, zero, suc, ◌+◌, ◌-◌, ◌*◌, ◌/◌, ◌%◌, ◌^◌, ◌<◌, ◌≤◌}
use mathlib.Core.Path.{◌≡◌, refl, sym, ap, ◌∙◌}
use mathlib.Core.Bool.{true, false, ◌&&◌}
use mathlib.Core.List.{List, [], ◌∷◌, ◌++◌, append_assoc, append-nil}
use mathlib.Core.Option.{none, some}
use mathlib.Core.Logic.{inl, inr}
use native.Mathlib.Nat.{pow-zero, pow-suc, div-lt_iff_lt-mul, mod-lt, div-le_self, div-add-mod', mul-add-div_right, div-eq_of_lt}
use native.Mathlib.Nat.{mul-add-mod_self_right, mod-eq_of_lt, add-zero, mul-le-mul_right, one-mul, le-div_iff_mul-le}
use native.Mathlib.Omega.{arith}
use lib.Dec.{ltb}
use lib.ListN.{length, length-append}
use borrow.Author.Tests.{ltb-true, ltb-false, lt-ltb, le-ltb}
use Rattle.machine.proofs.Tests.{test, by_test, and_left, and_right}
use Rattle.machine.specs.Text.{digit_text, numeral}
use Rattle.machine.specs.Fields.{digit_of, follows, further, numeral_of}
use Rattle.machine.proofs.DigitBytes.{digit-text, text-digit}

-- ---- a numeral's lines

pub numeral_none : (b n : ℕ) → numeral b 0 n ≡ []
unfolding numeral
numeral_none b n = refl

pub numeral_one : (b k n : ℕ) → n < b → numeral b (suc k) n ≡ digit_text n ∷ []
unfolding numeral
numeral_one b k n h = rw (lt-ltb n b h)

pub numeral_more : (b k n : ℕ) → b ≤ n → numeral b (suc k) n ≡ numeral b k (n / b) ++ (digit_text (n % b) ∷ [])
unfolding numeral
numeral_more b k n h = rw (le-ltb n b h)

pub length-numeral : (b k n : ℕ) → length (numeral b k n) ≤ k
unfolding numeral
length-numeral b zero n = omega arith
length-numeral b (suc k) n = by_test (λ (l : List ℕ). length l ≤ suc k) (ltb n b) (λ e. omega arith) (λ e. simp length-append (omega (arith, length-numeral b k (n / b))))

-- ---- a number's lines

pub further_step : (b m a c : ℕ) (cs : List ℕ) → follows b m a c ≡ true → further b m a (c ∷ cs) ≡ further b m (a * b + digit_of c) cs
unfolding further
further_step b m a c cs e = rw e

pub further_stop : (b m a c : ℕ) (cs : List ℕ) → follows b m a c ≡ false → further b m a (c ∷ cs) ≡ none
unfolding further
further_stop b m a c cs e = rw e

pub further_end : (b m a : ℕ) → further b m a [] ≡ some a
unfolding further
further_end b m a = refl

pub numeral_of_first : (b m c : ℕ) (cs : List ℕ) → digit_of c < b → numeral_of b m (c ∷ cs) ≡ further b m (digit_of c) cs
unfolding numeral_of
numeral_of_first b m c cs h = rw (lt-ltb (digit_of c) b h)

pub numeral_of_not : (b m c : ℕ) (cs : List ℕ) → b ≤ digit_of c → numeral_of b m (c ∷ cs) ≡ none
unfolding numeral_of
numeral_of_not b m c cs h = rw (le-ltb (digit_of c) b h)

pub numeral_of-empty : (b m : ℕ) → numeral_of b m [] ≡ none
unfolding numeral_of
numeral_of-empty b m = refl

-- the test of a byte, by its three parts
pub follows-yes : (b m a c : ℕ) → 0 < a → digit_of c < b → a * b + digit_of c < m → follows b m a c ≡ true
follows-yes b m a c p d l = rw (lt-ltb 0 a p, lt-ltb (digit_of c) b d, lt-ltb (a * b + digit_of c) m l)

pub follows-parts : (b m a c : ℕ) → follows b m a c ≡ true → (0 < a) × (digit_of c < b) × (a * b + digit_of c < m)
follows-parts b m a c e =
    let r : (ltb (digit_of c) b && ltb (a * b + digit_of c) m) ≡ true = and_right (ltb 0 a) _ e in
    (ltb-true 0 a (and_left (ltb 0 a) _ e), ltb-true (digit_of c) b (and_left (ltb (digit_of c) b) _ r), ltb-true (a * b + digit_of c) m (and_right (ltb (digit_of c) b) _ r))

-- ---- what was written is read back

further_snoc : (b m a c : ℕ) (x : List ℕ) (v : ℕ) → further b m a x ≡ some v → follows b m v c ≡ true → further b m a (x ++ (c ∷ [])) ≡ some (v * b + digit_of c)
unfolding further
further_snoc b m a c [] v e f = let g : a ≡ v = cc in rw (g, f)
further_snoc b m a c (d ∷ x) v e f = elim (test (follows b m a d)) [
  | inl t ↦ rw t (further_snoc b m (a * b + digit_of d) c x v (rw t at e) f)
  | inr t ↦ let z : none ≡ some v = rw t at e in absurd (let o : ◌≡◌ {A = ℕ} 0 1 = cc in omega arith)
]

numeral_of_snoc : (b m c : ℕ) (x : List ℕ) (v : ℕ) → numeral_of b m x ≡ some v → follows b m v c ≡ true → numeral_of b m (x ++ (c ∷ [])) ≡ some (v * b + digit_of c)
unfolding numeral_of
numeral_of_snoc b m c [] v e f = absurd (let o : ◌≡◌ {A = ℕ} 0 1 = cc in omega arith)
numeral_of_snoc b m c (d ∷ x) v e f = elim (test (ltb (digit_of d) b)) [
  | inl t ↦ rw t (further_snoc b m (digit_of d) c x v (rw t at e) f)
  | inr t ↦ let z : none ≡ some v = rw t at e in absurd (let o : ◌≡◌ {A = ℕ} 0 1 = cc in omega arith)
]

module _ (b m : ℕ) (two : 1 < b) (small : b ≤ 16) where
  one_read : (k n : ℕ) → n < b → numeral_of b m (numeral b (suc k) n) ≡ some n
  one_read k n h =
      let e : digit_of (digit_text n) ≡ n = digit-text n (omega arith) in
      let d : digit_of (digit_text n) < b = omega arith in
      rw (numeral_one b k n h, numeral_of_first b m (digit_text n) [] d, further_end) (ap some e)

  pub first_digit : {n : ℕ} → n < b ^ 1 → n < b
  first_digit {n} h = let e : b ^ 1 ≡ b = pow-suc b 0 ∙ rw (pow-zero, one-mul) in omega arith

  pub rest_below : (k : ℕ) {n : ℕ} → n < b ^ suc (suc k) → n / b < b ^ suc k
  rest_below k h = let p : 0 < b = omega arith in (div-lt_iff_lt-mul p).1 (rw pow-suc at h)

  pub numeral_read : (k n : ℕ) → n < b ^ suc k → n < m → numeral_of b m (numeral b (suc k) n) ≡ some n
  numeral_read zero n h l = one_read 0 n (first_digit h)
  numeral_read (suc k) n h l = elim (test (ltb n b)) [
    | inl t ↦ one_read (suc k) n (ltb-true n b t)
    | inr t ↦
        let g : b ≤ n = ltb-false n b t in
        let r : n % b < b = mod-lt n (omega arith) in
        let e : digit_of (digit_text (n % b)) ≡ n % b = digit-text (n % b) (omega arith) in
        let s : n / b * b + n % b ≡ n = div-add-mod' n b in
        let q : numeral_of b m (numeral b (suc k) (n / b)) ≡ some (n / b) = numeral_read k (n / b) (rest_below k h) (omega (arith, div-le_self n b)) in
        let z : 0 < b = omega arith in
        let p : 0 < n / b = (le-div_iff_mul-le z).1 (omega arith) in
        rw (
          numeral_more b (suc k) n g,
          numeral_of_snoc b m (digit_text (n % b)) (numeral b (suc k) (n / b)) (n / b) q
              (follows-yes b m (n / b) (digit_text (n % b)) p (omega arith) (omega arith)),
          e,
          s,
        )
  ]

  -- ---- what is accepted is the one text of its value

  pub numeral_fuel : (k n : ℕ) → n < b ^ suc k → numeral b (suc k) n ≡ numeral b (suc (suc k)) n
  numeral_fuel zero n h = let p = first_digit h in numeral_one b 0 n p ∙ sym (numeral_one b 1 n p)
  numeral_fuel (suc k) n h = elim (test (ltb n b)) [
    | inl t ↦ let p = ltb-true n b t in numeral_one b (suc k) n p ∙ sym (numeral_one b (suc (suc k)) n p)
    | inr t ↦ let g = ltb-false n b t in rw (numeral_more b (suc k) n g, numeral_more b (suc (suc k)) n g, numeral_fuel k (n / b) (rest_below k h))
  ]

  pub numeral_step : (k a d : ℕ) → 0 < a → d < b → a * b + d < b ^ suc k → numeral b (suc k) (a * b + d) ≡ numeral b (suc k) a ++ (digit_text d ∷ [])
  numeral_step zero a d p l h = let q : 1 * b ≤ a * b = mul-le-mul_right b p in let f = first_digit h in absurd (omega arith)
  numeral_step (suc k) a d p l h =
      let q : 1 * b ≤ a * b = mul-le-mul_right b p in
      let e₁ : (a * b + d) / b ≡ a = mul-add-div_right (omega arith) a d ∙ rw (div-eq_of_lt l, add-zero) in
      let e₂ : (a * b + d) % b ≡ d = mul-add-mod_self_right a b d ∙ mod-eq_of_lt l in
      let f : a < b ^ suc k = rw e₁ at (rest_below k h) in
      rw (numeral_more b (suc k) (a * b + d) (omega arith), e₁, e₂, numeral_fuel k a f)

  module _ (k : ℕ) (fits : m ≤ b ^ suc k) where
    further-text : (a : ℕ) (f : List ℕ) (n : ℕ) → a < m → further b m a f ≡ some n → (numeral b (suc k) a ++ f ≡ numeral b (suc k) n) × (n < m)
    further-text a [] n l e = let g : a ≡ n = cc (further_end b m a) in rw (← g) (append-nil (numeral b (suc k) a), l)
    further-text a (c ∷ f) n l e = elim (test (follows b m a c)) [
      | inl t ↦
          let p = follows-parts b m a c t in
          let i = further-text (a * b + digit_of c) f n p.2 (sym (further_step b m a c f t) ∙ e) in
          let s : numeral b (suc k) (a * b + digit_of c) ≡ numeral b (suc k) a ++ (c ∷ []) = numeral_step k a (digit_of c) p.0 p.1 (omega arith) ∙ rw (text-digit c (omega arith)) in
          (sym (append_assoc (numeral b (suc k) a) (c ∷ []) f) ∙ rw (← s) i.0, i.1)
      | inr t ↦ absurd (let o : ◌≡◌ {A = ℕ} 0 1 = cc (further_stop b m a c f t) in omega arith)
    ]

    pub numeral-text : b ≤ m → (f : List ℕ) (n : ℕ) → numeral_of b m f ≡ some n → (f ≡ numeral b (suc k) n) × (n < m)
    numeral-text w [] n e = absurd (let o : ◌≡◌ {A = ℕ} 0 1 = cc (numeral_of-empty b m) in omega arith)
    numeral-text w (c ∷ f) n e = elim (test (ltb (digit_of c) b)) [
      | inl t ↦
          let d = ltb-true (digit_of c) b t in
          let i = further-text (digit_of c) f n (omega arith) (sym (numeral_of_first b m c f d) ∙ e) in
          (rw (numeral_one b k (digit_of c) d, text-digit c (omega arith)) at i.0, i.1)
      | inr t ↦ absurd (let o : ◌≡◌ {A = ℕ} 0 1 = cc (numeral_of_not b m c f (ltb-false (digit_of c) b t)) in omega arith)
    ]
