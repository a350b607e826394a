-- Lists without repeats: one whose members all stand in another list is no longer than that one.
use Prim.Native.Nat.{ℕ, suc, ◌≤◌}
use mathlib.Core.Path.{◌≡◌, refl, sym, ap, ◌∙◌, subst}
use mathlib.Core.Logic.{◌⊎◌, inl, inr}
use mathlib.Core.Bool.{true, false}
use mathlib.Core.List.{List, [], ◌∷◌, ◌++◌}
use native.Mathlib.Omega.{arith}
use lib.Dec.{eqb}
use lib.ListN.{length}
use borrow.Author.Tests.{eqb-true, eqb-false, eq-eqb, ne_eqb}
use Rattle.machine.specs.Fail.{but}
use Rattle.machine.specs.Claim.{elem}
use Rattle.machine.specs.Sound.{NoRepeat}
use Rattle.machine.proofs.Tests.{test, never, or_left, or_right, or_true}
use Rattle.machine.proofs.Fail.{distinct-but}

-- every member of l is a member of m
abbrev pub Within : List ℕ → List ℕ → Type 0
Within l m = (x : ℕ) → elem x l ≡ true → elem x m ≡ true

-- ---- members

pub elem-head : (x : ℕ) (l : List ℕ) → elem x (x ∷ l) ≡ true
unfolding elem
elem-head x l = rw (eq-eqb x x refl)

pub elem_tail : (x y : ℕ) (l : List ℕ) → elem x l ≡ true → elem x (y ∷ l) ≡ true
unfolding elem
elem_tail x y l h = or_true (eqb y x) (elem x l) h

-- a member of a list is its head or a member of its tail
pub elem_cases : (x y : ℕ) (l : List ℕ) → elem x (y ∷ l) ≡ true → (y ≡ x) ⊎ (elem x l ≡ true)
unfolding elem
elem_cases x y l h = elim (test (eqb y x)) [ inl e ↦ inl (eqb-true y x e) | inr e ↦ inr (rw e at h) ]

pub elem_front : (x : ℕ) (l m : List ℕ) → elem x l ≡ true → elem x (l ++ m) ≡ true
unfolding elem
elem_front x [] m h = never h
elem_front x (y ∷ l) m h = elim (test (eqb y x)) [ inl e ↦ rw e | inr e ↦ rw e (elem_front x l m (rw e at h)) ]

pub elem_back : (x : ℕ) (l m : List ℕ) → elem x m ≡ true → elem x (l ++ m) ≡ true
unfolding elem
elem_back x [] m h = h
elem_back x (y ∷ l) m h = or_true (eqb y x) _ (elem_back x l m h)

pub elem_snoc : (x y : ℕ) (l : List ℕ) → elem x (l ++ (y ∷ [])) ≡ true → (elem x l ≡ true) ⊎ (y ≡ x)
unfolding elem
elem_snoc x y [] h = elim (test (eqb y x)) [ inl e ↦ inr (eqb-true y x e) | inr e ↦ never (rw e at h) ]
elem_snoc x y (z ∷ l) h = elim (test (eqb z x)) [ inl e ↦ inl (rw e) | inr e ↦ rw e (elem_snoc x y l (rw e at h)) ]

-- ---- one more at the end

absent_snoc : (x y : ℕ) (l : List ℕ) → (x ≡ y → ⊥) → elem y l ≡ false → elem y (l ++ (x ∷ [])) ≡ false
unfolding elem
absent_snoc x y [] n h = rw (ne_eqb x y n)
absent_snoc x y (z ∷ l) n h = rw (or_left (eqb z y) (elem y l) h) (absent_snoc x y l n (or_right (eqb z y) (elem y l) h))

pub distinct_snoc : (x : ℕ) (l : List ℕ) → NoRepeat l → elem x l ≡ false → NoRepeat (l ++ (x ∷ []))
unfolding elem
distinct_snoc x [] n h = (refl, tt)
distinct_snoc x (y ∷ l) n h = (absent_snoc x y l (λ e. eqb-false y x (or_left (eqb y x) (elem x l) h) (sym e)) n.0, distinct_snoc x l n.1 (or_right (eqb y x) (elem x l) h))

-- ---- all but one number

pub elem-but : (x h : ℕ) (l : List ℕ) → elem x (but h l) ≡ true → (elem x l ≡ true) × (h ≡ x → ⊥)
unfolding elem but
elem-but x h [] e = never e
elem-but x h (y ∷ l) e =
    elim (test (eqb y h)) [
      | inl d ↦ let w = elem-but x h l (rw d at e) in (or_true (eqb y x) (elem x l) w.0, w.1)
      | inr d ↦ elim (elem_cases x y (but h l) (rw d at e)) [
        | inl q ↦ (rw (eq-eqb y x q), λ c. eqb-false y h d (q ∙ sym c))
        | inr q ↦ let w = elem-but x h l q in (or_true (eqb y x) (elem x l) w.0, w.1)
      ]
    ]

-- taking out what does not stand there takes out nothing
pub but-absent : (h : ℕ) (l : List ℕ) → elem h l ≡ false → but h l ≡ l
unfolding elem but
but-absent h [] e = refl
but-absent h (y ∷ l) e = rw (or_left (eqb y h) (elem h l) e) (ap (λ (m : List ℕ). y ∷ m) (but-absent h l (or_right (eqb y h) (elem h l) e)))

-- it stands there once at the most
length-but : (h : ℕ) (l : List ℕ) → NoRepeat l → length l ≤ suc (length (but h l))
unfolding but
length-but h [] n = omega arith
length-but h (y ∷ l) n =
    elim (test (eqb y h)) [
      | inl d ↦ rw d (subst (λ (x : ℕ). suc (length l) ≤ suc (length (but x l))) (eqb-true y h d) (omega (arith, ap length (but-absent y l n.0))))
      | inr d ↦ rw d (omega (arith, length-but h l n.1))
    ]

-- ---- the law

pub within-shorter : (m l : List ℕ) → NoRepeat l → Within l m → length l ≤ length m
unfolding elem
within-shorter [] [] n w = omega arith
within-shorter [] (x ∷ l) n w = never (w x (elem-head x l))
within-shorter (h ∷ m) l n w = omega (arith, length-but h l n, within-shorter m (but h l) (distinct-but h l n) rest)
  where
    rest : Within (but h l) m
    rest x e = let q = elem-but x h l e in elim (elem_cases x h m (w x q.0)) [ inl d ↦ absurd (q.1 d) | inr d ↦ d ]
