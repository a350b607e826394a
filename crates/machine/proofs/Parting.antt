-- Where a byte first stands, and what it parts.
use Prim.Native.Nat.{ℕ, zero, suc, ◌+◌, ◌/◌, ◌%◌, ◌<◌, ◌≤◌}
use mathlib.Core.Path.{◌≡◌, refl, ap}
use mathlib.Core.List.{List, [], ◌∷◌, ◌++◌, append_assoc}
use mathlib.Core.Logic.{inl, inr}
use native.Mathlib.Nat.{mod-lt, suc-add}
use native.Mathlib.Numerals.{add-one}
use native.Mathlib.Omega.{arith}
use lib.Dec.{eqb, ltb}
use lib.ListN.{length, take, drop, get_or, drop_of_length-le, length-drop}
use lib.Seq.{drop-cons}
use borrow.Author.Tests.{eq-eqb, ne_eqb, eqb-true, eqb-false, ltb-true, ltb-false}
use Rattle.machine.proofs.Tests.{test, by_test}
use Rattle.machine.specs.Text.{digit_text, numeral}
use Rattle.machine.specs.Fields.{before, behind}
use Rattle.machine.proofs.DigitBytes.{text-figure, text-letter}
use Rattle.machine.proofs.Numerals.{numeral_none, numeral_one, numeral_more}

-- ---- the search, byte by byte

pub before_end : (x : ℕ) (s : List ℕ) (i : ℕ) → length s ≤ i → length (before x (drop i s)) ≡ 0
unfolding before
before_end x s i h = rw (drop_of_length-le s h)

pub before_here : (x : ℕ) (s : List ℕ) (i : ℕ) → i < length s → get_or s i 0 ≡ x → length (before x (drop i s)) ≡ 0
unfolding before
before_here x s i h e = rw (drop-cons s i 0 h, eq-eqb (get_or s i 0) x e)

pub before_past : (x : ℕ) (s : List ℕ) (i : ℕ) → i < length s → (get_or s i 0 ≡ x → ⊥) → length (before x (drop i s)) ≡ 1 + length (before x (drop (i + 1) s))
unfolding before
before_past x s i h e = rw (drop-cons s i 0 h, ne_eqb (get_or s i 0) x e, add-one i) (omega arith)

-- ---- what it parts

pub take-before : (x : ℕ) (s : List ℕ) → take (length (before x s)) s ≡ before x s
unfolding before
take-before x [] = refl
take-before x (c ∷ s) = by_test (λ (l : List ℕ). take (length l) (c ∷ s) ≡ l) (eqb c x) (λ e. refl) (λ e. ap (λ (l : List ℕ). c ∷ l) (take-before x s))

pub before-length : (x : ℕ) (s : List ℕ) → length (before x s) ≤ length s
unfolding before
before-length x [] = omega arith
before-length x (c ∷ s) = by_test (λ (l : List ℕ). length l ≤ suc (length s)) (eqb c x) (λ e. omega arith) (λ e. omega (arith, before-length x s))

pub before-nil : (x : ℕ) → before x [] ≡ []
unfolding before
before-nil x = refl

pub before-skip : (x c : ℕ) (f : List ℕ) → (c ≡ x → ⊥) → before x (c ∷ f) ≡ c ∷ before x f
unfolding before
before-skip x c f h = rw (ne_eqb c x h)

pub before-met : (x : ℕ) (f : List ℕ) → before x (x ∷ f) ≡ []
unfolding before
before-met x f = rw (eq-eqb x x refl)

pub behind-skip : (x c : ℕ) (f : List ℕ) → (c ≡ x → ⊥) → behind x (c ∷ f) ≡ behind x f
unfolding behind
behind-skip x c f h = rw (before-skip x c f h, suc-add)

pub behind-met : (x : ℕ) (f : List ℕ) → behind x (x ∷ f) ≡ f
unfolding behind
behind-met x f = rw (before-met x f)

-- a byte that stands there parts the list into what is before it and what is behind it
pub parted : (x : ℕ) (s : List ℕ) → length (before x s) < length s → s ≡ before x s ++ (x ∷ behind x s)
parted x [] h = absurd (omega arith)
parted x (c ∷ s) h = elim (test (eqb c x)) [
  | inl t ↦ let e = eqb-true c x t in rw (e, before-met x s, behind-met x s)
  | inr t ↦
      let n = eqb-false c x t in
      let l : length (before x s) < length s = omega (arith, rw (before-skip x c s n) at h) in
      rw (before-skip x c s n, behind-skip x c s n) (ap (λ (f : List ℕ). c ∷ f) (parted x s l))
]

-- ---- no digit is a colon

no_colon : (d : ℕ) → d < 16 → digit_text d ≡ 58 → ⊥
no_colon d h e = elim (test (ltb d 10)) [
  | inl t ↦ let l = ltb-true d 10 t in omega (arith, text-figure d l)
  | inr t ↦ let l = ltb-false d 10 t in omega (arith, text-letter d l)
]

pub before-digits : (b k n : ℕ) (f : List ℕ) → 1 < b → b ≤ 16 → before 58 (numeral b k n ++ f) ≡ numeral b k n ++ before 58 f
before-digits b zero n f l u = rw (numeral_none b n)
before-digits b (suc k) n f l u = elim (test (ltb n b)) [
  | inl t ↦ let h = ltb-true n b t in rw (numeral_one b k n h) (before-skip 58 (digit_text n) f (no_colon n (omega arith)))
  | inr t ↦
      let h = ltb-false n b t in
      let r : n % b < b = mod-lt n (omega arith) in
      rw (numeral_more b k n h, append_assoc, append_assoc, before-digits b k (n / b) (digit_text (n % b) ∷ f) l u)
      (ap (λ (t : List ℕ). numeral b k (n / b) ++ t) (before-skip 58 (digit_text (n % b)) f (no_colon (n % b) (omega arith))))
]

-- a search from p on ends in the list
pub end_most : (x : ℕ) (s : List ℕ) (p : ℕ) {e : ℕ} → p ≤ length s → e ≡ p + length (before x (drop p s)) → e ≤ length s
end_most x s p h g = omega (arith, before-length x (drop p s), length-drop p s)
