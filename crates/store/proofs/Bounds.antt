-- Numbers that ascend are sorted, and a number has one place among them.
use Prim.Native.Nat.{ℕ, zero, suc, ◌+◌, ◌-◌, ◌≤◌, ◌<◌}
use mathlib.Core.Path.{◌≡◌}
use mathlib.Core.Logic.{inl, inr}
use mathlib.Core.List.{List, [], ◌∷◌, ◌++◌}
use native.Mathlib.Nat.{le_refl}
use native.Mathlib.Omega.{arith}
use lib.ListN.{length, get_or, length-append, get_or-append}
use lib.Seq.{get_or-append-add}
use Rattle.regions.specs.Order.{Sorted, Bound}
use Rattle.machine.proofs.Tests.{order}

-- numbers that do not fall, from lo on
abbrev pub Ascend : ℕ → List ℕ → Type 0
Ascend lo [] = Unit {0}
Ascend lo (k ∷ ks) = (lo ≤ k) × Ascend k ks

pub ascend_weaken : (lo hi : ℕ) (ks : List ℕ) → lo ≤ hi → Ascend hi ks → Ascend lo ks
ascend_weaken lo hi [] h a = tt
ascend_weaken lo hi (k ∷ ks) h a = (omega (arith, a.0), a.1)

ascend_at : (lo : ℕ) (ks : List ℕ) → Ascend lo ks → (q : ℕ) → q < length ks → lo ≤ get_or ks q 0
ascend_at lo [] a q h = absurd (omega arith)
ascend_at lo (k ∷ ks) a zero h = a.0
ascend_at lo (k ∷ ks) a (suc q) h = omega (arith, a.0, ascend_at k ks a.1 q (omega arith))

pub ascend-sorted : (lo : ℕ) (ks : List ℕ) → Ascend lo ks → Sorted ks
unfolding Sorted
ascend-sorted lo ks a p q h l = go lo ks a p q h l
  where
    go : (lo : ℕ) (ks : List ℕ) → Ascend lo ks → (p q : ℕ) → p ≤ q → q < length ks → get_or ks p 0 ≤ get_or ks q 0
    go lo [] a p q h l = absurd (omega arith)
    go lo (k ∷ ks) a zero zero h l = le_refl k
    go lo (k ∷ ks) a zero (suc q) h l = ascend_at k ks a.1 q (omega arith)
    go lo (k ∷ ks) a (suc p) zero h l = absurd (omega arith)
    go lo (k ∷ ks) a (suc p) (suc q) h l = go k ks a.1 p q (omega arith) (omega arith)

pub sorted-ascend : (lo : ℕ) (ks : List ℕ) → (0 < length ks → lo ≤ get_or ks 0 0) → Sorted ks → Ascend lo ks
unfolding Sorted
sorted-ascend lo [] h s = tt
sorted-ascend lo (k ∷ ks) h s = (h (omega arith), sorted-ascend k ks (λ l. s 0 1 (omega arith) (omega arith)) (λ p q a b. s (suc p) (suc q) (omega arith) (omega arith)))

-- numbers below x
abbrev pub Upto : ℕ → List ℕ → Type 0
Upto x [] = Unit {0}
Upto x (k ∷ ks) = (k < x) × Upto x ks

pub upto_weaken : (x y : ℕ) (ks : List ℕ) → x ≤ y → Upto x ks → Upto y ks
upto_weaken x y [] h u = tt
upto_weaken x y (k ∷ ks) h u = (omega (arith, u.0), upto_weaken x y ks h u.1)

pub upto-append : (x : ℕ) (a b : List ℕ) → Upto x a → Upto x b → Upto x (a ++ b)
upto-append x [] b u v = v
upto-append x (k ∷ a) b u v = (u.0, upto-append x a b u.1 v)

upto_at : (x : ℕ) (ks : List ℕ) → Upto x ks → (i : ℕ) → i < length ks → get_or ks i 0 < x
upto_at x [] u i h = absurd (omega arith)
upto_at x (k ∷ ks) u zero h = u.0
upto_at x (k ∷ ks) u (suc i) h = upto_at x ks u.1 i (omega arith)

-- the place of x is behind those below it
pub bound-append : (x : ℕ) (a b : List ℕ) → Upto x a → Ascend x b → Bound (a ++ b) x (length a)
bound-append x a b u s = record {
  most = simp length-append (omega arith);
  below = λ i h. rw (get_or-append a b 0 i h) (upto_at x a u i h);
  above = λ i h l.
      let e : i ≡ length a + (i - length a) = omega arith in
      rw (e, get_or-append-add a b (i - length a) 0) (ascend_at x b s (i - length a) (omega (arith, length-append a b)));
}

pub bound_same : (ks : List ℕ) (x p q : ℕ) → Bound ks x p → Bound ks x q → p ≡ q
bound_same ks x p q a b =
    elim (order p q) [
      | inl l ↦ absurd (omega (arith, b.below p l, a.above p (le_refl p) (omega (arith, b.most))))
      | inr (inl e) ↦ e
      | inr (inr l) ↦ absurd (omega (arith, a.below q l, b.above q (le_refl q) (omega (arith, a.most))))
    ]
