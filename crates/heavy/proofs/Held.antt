-- What the counters hold of the numbers met.
use Prim.Native.Nat.{ℕ, zero, suc, ◌+◌, ◌≤◌, ◌<◌}
use mathlib.Core.Path.{◌≡◌, refl, sym, ap, ◌∙◌}
use mathlib.Core.Bool.{true, false}
use mathlib.Core.Logic.{◌⊎◌, inl, inr}
use mathlib.Core.List.{List, [], ◌∷◌}
use native.Mathlib.Omega.{arith}
use lib.Dec.{eqb}
use lib.ListN.{length, set}
use borrow.Author.Tests.{eqb-true, eqb-false, ne_eqb}
use Rattle.std.specs.Prelude.{if◌then◌else◌}
use Rattle.machine.specs.Table.{one}
use Rattle.machine.proofs.Tests.{test}
use Rattle.heavy.specs.Counters.{index_of, lowered, raised, sum}

-- the count of the first counter with this name
unfoldable pub held : ℕ → List ℕ → List ℕ → ℕ
held y [] ks = 0
held y (n ∷ ns) [] = 0
held y (n ∷ ns) (c ∷ ks) = if eqb n y then c else held y ns ks

-- ---- one counter goes up

pub held_raised : (x y : ℕ) (ns ks : List ℕ) → length ns ≡ length ks → index_of x ns < length ns → held y ns (raised (index_of x ns) ks) ≡ one (eqb x y) + held y ns ks
unfolding held index_of
held_raised x y [] ks e h = absurd (omega arith)
held_raised x y (n ∷ ns) [] e h = absurd (omega arith)
held_raised x y (n ∷ ns) (c ∷ ks) e h = elim (test (eqb n x)) [
  | inl t ↦ let g = eqb-true n x t in rw t (here (test (eqb n y)) g)
  | inr t ↦ rw t (there (test (eqb n y)) t (held_raised x y ns ks (omega arith) (omega (arith, rw t at h))))
]
  where
    here : (eqb n y ≡ true) ⊎ (eqb n y ≡ false) → n ≡ x → (if eqb n y then c + 1 else held y ns ks) ≡ one (eqb x y) + (if eqb n y then c else held y ns ks)
    here (inl u) g = rw (u, ← g, u) (omega arith)
    here (inr u) g = rw (u, ← g, u) (omega arith)

    there : (eqb n y ≡ true) ⊎ (eqb n y ≡ false) → eqb n x ≡ false → held y ns (raised (index_of x ns) ks) ≡ one (eqb x y) + held y ns ks
        → (if eqb n y then c else held y ns (raised (index_of x ns) ks)) ≡ one (eqb x y) + (if eqb n y then c else held y ns ks)
    there (inl u) t r = let g = eqb-true n y u in let d = eqb-false n x t in rw (u, ne_eqb x y (λ z. d (g ∙ sym z))) (omega arith)
    there (inr u) t r = rw u r

-- a name that no counter has
pub held_none : (x : ℕ) (ns ks : List ℕ) → length ns ≤ index_of x ns → held x ns ks ≡ 0
unfolding held index_of
held_none x [] ks h = refl
held_none x (n ∷ ns) [] h = refl
held_none x (n ∷ ns) (c ∷ ks) h = elim (test (eqb n x)) [
  | inl t ↦ absurd (omega (arith, rw t at h))
  | inr t ↦ rw t (held_none x ns ks (omega (arith, rw t at h)))
]

-- ---- a counter at 0 gets another name

pub held_taken : (x y : ℕ) (ns ks : List ℕ) → length ns ≡ length ks → length ns ≤ index_of x ns → index_of 0 ks < length ks
    → one (eqb x y) + held y ns ks ≤ held y (set ns (index_of 0 ks) x) (set ks (index_of 0 ks) 1)
unfolding held index_of
held_taken x y [] ks e h g = absurd (omega arith)
held_taken x y (n ∷ ns) [] e h g = absurd (omega arith)
held_taken x y (n ∷ ns) (c ∷ ks) e h g = elim (test (eqb n x)) [
  | inl t ↦ absurd (omega (arith, rw t at h))
  | inr t ↦ elim (test (eqb c 0)) [
    | inl u ↦ let z = eqb-true c 0 u in rw u (free (test (eqb x y)) (test (eqb n y)) z (held_none x ns ks (omega (arith, rw t at h))) t)
    | inr u ↦ rw u (busy (test (eqb n y)) t (held_taken x y ns ks (omega arith) (omega (arith, rw t at h)) (omega (arith, rw u at g))))
  ]
]
  where
    free : (eqb x y ≡ true) ⊎ (eqb x y ≡ false) → (eqb n y ≡ true) ⊎ (eqb n y ≡ false) → c ≡ 0 → held x ns ks ≡ 0 → eqb n x ≡ false
        → one (eqb x y) + (if eqb n y then c else held y ns ks) ≤ (if eqb x y then 1 else held y ns ks)
    free (inl p) (inl q) z o t = let a = eqb-true x y p in let b = eqb-true n y q in absurd (eqb-false n x t (b ∙ sym a))
    free (inl p) (inr q) z o t = let a = eqb-true x y p in let w : held y ns ks ≡ 0 = rw (← a) o in rw (p, q, w) (omega arith)
    free (inr p) (inl q) z o t = rw (p, q, z) (omega arith)
    free (inr p) (inr q) z o t = rw (p, q) (omega arith)

    busy : (eqb n y ≡ true) ⊎ (eqb n y ≡ false) → eqb n x ≡ false → one (eqb x y) + held y ns ks ≤ held y (set ns (index_of 0 ks) x) (set ks (index_of 0 ks) 1)
        → one (eqb x y) + (if eqb n y then c else held y ns ks) ≤ (if eqb n y then c else held y (set ns (index_of 0 ks) x) (set ks (index_of 0 ks) 1))
    busy (inl q) t r = let b = eqb-true n y q in let d = eqb-false n x t in rw (q, ne_eqb x y (λ z. d (b ∙ sym z))) (omega arith)
    busy (inr q) t r = rw q r

-- ---- every counter goes down

pub held_lowered : (y : ℕ) (ns ks : List ℕ) → held y ns ks ≤ suc (held y ns (lowered ks))
unfolding held lowered
held_lowered y [] ks = omega arith
held_lowered y (n ∷ ns) [] = omega arith
held_lowered y (n ∷ ns) (c ∷ ks) = elim (test (eqb n y)) [ inl t ↦ rw t (omega arith) | inr t ↦ rw t (held_lowered y ns ks) ]

-- ---- the counts in all

pub sum-raised : (i : ℕ) (ks : List ℕ) → i < length ks → sum (raised i ks) ≡ suc (sum ks)
unfolding sum
sum-raised i [] h = absurd (omega arith)
sum-raised zero (c ∷ ks) h = omega arith
sum-raised (suc i) (c ∷ ks) h = omega (arith, sum-raised i ks (omega arith))

pub sum-taken : (ks : List ℕ) → index_of 0 ks < length ks → sum (set ks (index_of 0 ks) 1) ≡ suc (sum ks)
unfolding sum index_of
sum-taken [] h = absurd (omega arith)
sum-taken (c ∷ ks) h = elim (test (eqb c 0)) [
  | inl t ↦ let z = eqb-true c 0 t in rw t (omega arith)
  | inr t ↦ rw t (omega (arith, sum-taken ks (omega (arith, rw t at h))))
]

pub sum-lowered : (ks : List ℕ) → length ks ≤ index_of 0 ks → sum (lowered ks) + length ks ≡ sum ks
unfolding sum index_of lowered
sum-lowered [] h = refl
sum-lowered (c ∷ ks) h = elim (test (eqb c 0)) [
  | inl t ↦ absurd (omega (arith, rw t at h))
  | inr t ↦ let d = eqb-false c 0 t in omega (arith, sum-lowered ks (omega (arith, rw t at h)))
]

pub length-lowered : (ks : List ℕ) → length (lowered ks) ≡ length ks
unfolding lowered
length-lowered [] = refl
length-lowered (c ∷ ks) = ap suc (length-lowered ks)
