-- Lists of keys: membership, keys that ascend by a measure of their place, the part of a list before a key.
use Prim.Native.Nat.{ℕ, zero, suc, ◌≤◌, ◌<◌}
use mathlib.Core.Path.{◌≡◌, refl, sym, ap, ◌∙◌}
use mathlib.Core.Logic.{inl, inr}
use mathlib.Core.Bool.{true, false, ◌||◌}
use mathlib.Core.List.{List, [], ◌∷◌, ◌++◌}
use mathlib.Core.Option.{some, none-ne-some, some-injective}
use native.Mathlib.Omega.{arith}
use lib.Dec.{eqb}
use lib.ListN.{length, take}
use borrow.Author.Tests.{eqb-true, eqb-false, eq-eqb, ne_eqb}
use Rattle.std.specs.Prelude.{if◌then◌else◌}
use Rattle.ident.specs.Number.{Key, place}
use Rattle.machine.specs.Sweep.{last_of}
use Rattle.machine.specs.Demand3.{mem, less, unique}
use Rattle.machine.proofs.Tests.{test, never, or_left, or_right, or_true}

-- ---- membership

pub mem_same : (j k : Key) (l : List Key) → place j ≡ place k → mem j l ≡ mem k l
unfolding mem
mem_same j k [] e = refl
mem_same j k (x ∷ l) e = rw (e, mem_same j k l e)

pub mem-append : (k : Key) (l m : List Key) → mem k (l ++ m) ≡ (mem k l || mem k m)
unfolding mem
mem-append k [] m = refl
mem-append k (x ∷ l) m = elim (test (eqb (place x) (place k))) [ inl e ↦ rw e | inr e ↦ rw (e, mem-append k l m) ]

pub mem_left : (x : Key) (l m : List Key) → mem x l ≡ true → mem x (l ++ m) ≡ true
mem_left x l m h = rw (mem-append x l m, h)

pub mem_right : (x : Key) (l m : List Key) → mem x m ≡ true → mem x (l ++ m) ≡ true
mem_right x l m h = mem-append x l m ∙ or_true (mem x l) (mem x m) h

pub absent_left : (x : Key) (l m : List Key) → mem x (l ++ m) ≡ false → mem x l ≡ false
absent_left x l m h = or_left (mem x l) (mem x m) (sym (mem-append x l m) ∙ h)

pub absent_right : (x : Key) (l m : List Key) → mem x (l ++ m) ≡ false → mem x m ≡ false
absent_right x l m h = or_right (mem x l) (mem x m) (sym (mem-append x l m) ∙ h)

pub mem-take : (n : ℕ) (k : Key) (l : List Key) → mem k (take n l) ≡ true → mem k l ≡ true
unfolding mem
mem-take zero k l h = never h
mem-take (suc n) k [] h = h
mem-take (suc n) k (x ∷ l) h = elim (test (eqb (place x) (place k))) [ inl e ↦ rw e | inr e ↦ rw e (mem-take n k l (rw e at h)) ]

-- ---- keys that ascend by a measure of their place, from a number on

abbrev pub Asc : (ℕ → ℕ) → ℕ → List Key → Type 0
Asc f lo [] = Unit {0}
Asc f lo (x ∷ l) = (lo ≤ f (place x)) × Asc f (suc (f (place x))) l

-- all below a number by such a measure
abbrev pub Below : (ℕ → ℕ) → ℕ → List Key → Type 0
Below f hi [] = Unit {0}
Below f hi (x ∷ l) = (f (place x) < hi) × Below f hi l

pub asc_weaken : (f : ℕ → ℕ) (a b : ℕ) (l : List Key) → a ≤ b → Asc f b l → Asc f a l
asc_weaken f a b [] h o = tt
asc_weaken f a b (x ∷ l) h o = (omega arith, o.1)

-- one list, then another above it
pub asc_append : (f : ℕ → ℕ) (a hi : ℕ) (l m : List Key) → a ≤ hi → Below f hi l → Asc f a l → Asc f hi m → Asc f a (l ++ m)
asc_append f a hi [] m h b o p = asc_weaken f a hi m h p
asc_append f a hi (x ∷ l) m h b o p = (o.0, asc_append f (suc (f (place x))) hi l m b.0 b.1 o.1 p)

-- a key of an ascending list stands at its start or above
pub mem_above : (f : ℕ → ℕ) (k : Key) (a : ℕ) (l : List Key) → Asc f a l → mem k l ≡ true → a ≤ f (place k)
unfolding mem
mem_above f k a [] o h = never h
mem_above f k a (x ∷ l) o h =
    elim (test (eqb (place x) (place k))) [
      | inl e ↦ omega (arith, ap f (eqb-true (place x) (place k) e), o.0)
      | inr e ↦ omega (arith, o.0, mem_above f k (suc (f (place x))) l o.1 (rw e at h))
    ]

pub mem_below : (f : ℕ → ℕ) (k : Key) (hi : ℕ) (l : List Key) → Below f hi l → mem k l ≡ true → f (place k) < hi
unfolding mem
mem_below f k hi [] u h = never h
mem_below f k hi (x ∷ l) u h =
    elim (test (eqb (place x) (place k))) [
      | inl e ↦ omega (arith, ap f (eqb-true (place x) (place k) e), u.0)
      | inr e ↦ mem_below f k hi l u.1 (rw e at h)
    ]

-- ---- the last key of a list

last_some : (x : Key) (l : List Key) → (z : Key) × (last_of (x ∷ l) ≡ some z) × (mem z (x ∷ l) ≡ true)
unfolding last_of mem
last_some x [] = (x, refl, rw (eq-eqb (place x) (place x) refl))
last_some x (y ∷ l) = let r = last_some y l in (r.0, r.1, or_true (eqb (place x) (place r.0)) _ r.2)

pub last-of : (l : List Key) → 0 < length l → (z : Key) × (last_of l ≡ some z) × (mem z l ≡ true)
last-of [] h = absurd (omega arith)
last-of (x ∷ l) h = last_some x l

-- what ascends, and then goes on from its last key
pub asc_join : (f : ℕ → ℕ) (a : ℕ) (z : Key) (l m : List Key) → last_of l ≡ some z → Asc f a l → Asc f (suc (f (place z))) m → Asc f a (l ++ m)
unfolding last_of
asc_join f a z [] m e o p = absurd (none-ne-some z e)
asc_join f a z (x ∷ []) m e o p = (o.0, rw (some-injective x z e) p)
asc_join f a z (x ∷ (y ∷ l)) m e o p = (o.0, asc_join f (suc (f (place x))) z (y ∷ l) m e o.1 p)

-- ---- a list without a key, and with none twice

pub mem_less : (x y : Key) (u : List Key) → mem x u ≡ true → (place x ≡ place y → ⊥) → mem x (less y u) ≡ true
unfolding mem less
mem_less x y [] h d = h
mem_less x y (z ∷ u) h d =
    elim (test (eqb (place z) (place y))) [
      | inl e ↦ rw e (mem_less x y u (rw (ne_eqb (place z) (place x) (λ q. d (sym q ∙ eqb-true _ _ e))) at h) d)
      | inr e ↦ rw e (elim (test (eqb (place z) (place x))) [ inl g ↦ rw g | inr g ↦ rw g (mem_less x y u (rw g at h) d) ])
    ]

length_less : (y : Key) (u : List Key) → length (less y u) ≤ length u
unfolding less
length_less y [] = omega arith
length_less y (z ∷ u) = elim (test (eqb (place z) (place y))) [ inl e ↦ rw e (omega (arith, length_less y u)) | inr e ↦ rw e (omega (arith, length_less y u)) ]

pub less_shorter : (y : Key) (u : List Key) → mem y u ≡ true → length (less y u) < length u
unfolding mem less
less_shorter y [] h = never h
less_shorter y (z ∷ u) h =
    elim (test (eqb (place z) (place y))) [
      | inl e ↦ rw e (omega (arith, length_less y u))
      | inr e ↦ rw e (omega (arith, less_shorter y u (rw e at h)))
    ]

pub mem_unique : (x : Key) (l : List Key) → mem x l ≡ true → mem x (unique l) ≡ true
unfolding mem unique
mem_unique x [] h = h
mem_unique x (y ∷ l) h =
    elim (test (eqb (place y) (place x))) [
      | inl e ↦ rw e
      | inr e ↦ rw e (mem_less x y (unique l) (mem_unique x l (rw e at h)) (λ q. eqb-false (place y) (place x) e (sym q)))
    ]

-- ---- a list that ascends by any measure, within another, is no longer than it

Within : List Key → List Key → Type 0
Within [] u = Unit {0}
Within (x ∷ l) u = (mem x u ≡ true) × Within l u

within : (l u : List Key) → ((x : Key) → mem x l ≡ true → mem x u ≡ true) → Within l u
unfolding Within mem
within [] u f = tt
within (x ∷ l) u f = (f x (rw (eq-eqb (place x) (place x) refl)), within l u (λ y h. f y (or_true (eqb (place x) (place y)) _ h)))

within_less : (f : ℕ → ℕ) (y : Key) (a : ℕ) (l u : List Key) → f (place y) < a → Asc f a l → Within l u → Within l (less y u)
unfolding Within
within_less f y a [] u h o w = tt
within_less f y a (x ∷ l) u h o w =
    (mem_less x y u w.0 (λ e. omega (arith, ap f e, o.0)), within_less f y (suc (f (place x))) l u (omega (arith, o.0)) o.1 w.1)

no_longer : (f : ℕ → ℕ) (a : ℕ) (l u : List Key) → Asc f a l → Within l u → length l ≤ length u
unfolding Within
no_longer f a [] u o w = omega arith
no_longer f a (x ∷ l) u o w =
    omega (arith, less_shorter x u w.0, no_longer f (suc (f (place x))) l (less x u) o.1 (within_less f x _ l u (omega arith) o.1 w.1))

pub pigeonhole : (f : ℕ → ℕ) (a : ℕ) (l u : List Key) → Asc f a l → ((x : Key) → mem x l ≡ true → mem x u ≡ true) → length l ≤ length u
pigeonhole f a l u o w = no_longer f a l u o (within l u w)

-- ---- the part of a list before k

unfoldable pub before : Key → List Key → List Key
before k [] = []
before k (x ∷ l) = if eqb (place x) (place k) then [] else x ∷ before k l

pub before_left : (k : Key) (l m : List Key) → mem k l ≡ true → before k (l ++ m) ≡ before k l
unfolding before mem
before_left k [] m h = never h
before_left k (x ∷ l) m h = elim (test (eqb (place x) (place k))) [ inl e ↦ rw e | inr e ↦ rw (e, before_left k l m (rw e at h)) ]

pub before_right : (k : Key) (l m : List Key) → mem k l ≡ false → before k (l ++ m) ≡ l ++ before k m
unfolding before mem
before_right k [] m h = refl
before_right k (x ∷ l) m h = elim (test (eqb (place x) (place k))) [ inl e ↦ never (sym (rw e at h)) | inr e ↦ rw (e, before_right k l m (rw e at h)) ]

-- a list that has k beyond its first n: it has n at least, and those stand before k
pub take-full : (n : ℕ) (k : Key) (l : List Key) → mem k l ≡ true → mem k (take n l) ≡ false → length (take n l) ≡ n
unfolding mem
take-full zero k l h g = refl
take-full (suc n) k [] h g = never h
take-full (suc n) k (x ∷ l) h g = elim (test (eqb (place x) (place k))) [ inl e ↦ never (sym (rw e at g)) | inr e ↦ ap suc (take-full n k l (rw e at h) (rw e at g)) ]

pub take-before : (f : ℕ → ℕ) (n : ℕ) (k : Key) (a : ℕ) (l : List Key) → mem k (take n l) ≡ false → Asc f a (before k l) → Asc f a (take n l)
unfolding mem before
take-before f zero k a l g o = tt
take-before f (suc n) k a [] g o = tt
take-before f (suc n) k a (x ∷ l) g o =
    elim (test (eqb (place x) (place k))) [
      | inl e ↦ never (sym (rw e at g))
      | inr e ↦ ((rw e at o).0, take-before f n k _ l (rw e at g) (rw e at o).1)
    ]
