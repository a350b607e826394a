-- A change at one key is a splice of what every request gives.
use Prim.Native.Nat.{ℕ, suc, ◌<◌}
use mathlib.Core.Path.{◌≡◌, refl}
use mathlib.Core.Logic.{inl, inr}
use mathlib.Core.Bool.{Bool, true, false}
use mathlib.Core.List.{List, [], ◌∷◌, ◌++◌, append_assoc}
use mathlib.Core.Option.{Option, none, some}
use native.Mathlib.Omega.{arith}
use lib.Dec.{ltb, leb, eqb}
use borrow.Author.Tests.{ltb-true, ltb-false, eqb-true, eqb-false, leb-false, lt-ltb, le-ltb, lt-leb, le-leb}
use Rattle.std.specs.Prelude.{if◌then◌else◌}
use Rattle.ident.specs.Number.{Key, place}
use Rattle.regions.specs.declared.Row.{Row}
use Rattle.regions.specs.Regions.{each}
use Rattle.places.specs.Places.{Place}
use Rattle.machine.specs.State.{Candidate, Owner, Package, Request, Table, blank}
use Rattle.machine.specs.Table.{at, keep, change, has}
use Rattle.machine.specs.Sound.{OwnerFits, Packed, Lawful, Ordered, All}
use Rattle.machine.proofs.Tests.{test, never}
use Rattle.machine.proofs.Table.{at_absent}
use Rattle.store.specs.Flat.{rows_for, rows_of, place_for, places_for, places_of}

-- the requests before a key, and those after it
unfoldable pub below : Key → Table → Table
below k [] = []
below k (r ∷ t) = if ltb (place r.key) (place k) then r ∷ below k t else []

unfoldable pub above : Key → Table → Table
above k [] = []
above k (r ∷ t) = if leb (place r.key) (place k) then above k t else r ∷ t

above_all : (k : Key) (lo : ℕ) (t : Table) → place k < lo → Ordered lo t → above k t ≡ t
unfolding above
above_all k lo [] h o = refl
above_all k lo (r ∷ t) h o = rw (lt-leb (place r.key) (place k) (omega (arith, o.0)))

pub above_ordered : (k : Key) (lo : ℕ) (t : Table) → Ordered lo t → Ordered (suc (place k)) (above k t)
unfolding above
above_ordered k lo [] o = tt
above_ordered k lo (r ∷ t) o =
    elim (test (leb (place r.key) (place k))) [ inl e ↦ rw e (above_ordered k (suc (place r.key)) t o.2) | inr e ↦ rw e (leb-false (place r.key) (place k) e, o.1, o.2) ]

pub below_under : (k : Key) (t : Table) → All (λ r. place r.key < place k) (below k t)
unfolding below
below_under k [] = tt
below_under k (r ∷ t) = elim (test (ltb (place r.key) (place k))) [ inl e ↦ rw e (ltb-true _ _ e, below_under k t) | inr e ↦ rw e tt ]

-- a table is what stands below a key, what stands at it, and what stands above
pub change_split : (k : Key) (f : Request → Request) (lo : ℕ) (t : Table) → Ordered lo t
    → change k f t ≡ below k t ++ keep (f (at k t)) (f (at k t)).candidates (above k t)
unfolding change at below above
change_split k f lo [] o = refl
change_split k f lo (r ∷ t) o =
    elim (test (ltb (place k) (place r.key))) [
      | inl e ↦ let l = ltb-true (place k) (place r.key) e in
          rw (e, le-ltb (place r.key) (place k) (omega arith), lt-leb (place r.key) (place k) (omega arith), at_absent k (place r.key) (r ∷ t) l (omega arith, o.1, o.2))
      | inr e ↦ rw e (elim (test (eqb (place k) (place r.key))) [
        | inl d ↦ let q = eqb-true (place k) (place r.key) d in
            rw (d, le-ltb (place r.key) (place k) (omega arith), le-leb (place r.key) (place k) (omega arith), above_all k _ t (omega arith) o.2)
        | inr d ↦ let q : place r.key < place k = omega (arith, ltb-false, eqb-false (place k) (place r.key) d) in
            rw (d, lt-ltb (place r.key) (place k) q, le-leb (place r.key) (place k) (omega arith), change_split k f (suc (place r.key)) t o.2)
      ])
    ]

-- ---- g of each request

module _ {B : Type 0} (g : Request → List B) where
  pub each_append : (s t : Table) → each g (s ++ t) ≡ each g s ++ each g t
  unfolding each
  each_append [] t = refl
  each_append (r ∷ s) t = rw (each_append s t, append_assoc)

  each_keep : (r : Request) (cs : List Candidate) (t : Table) → (cs ≡ [] → g r ≡ []) → each g (keep r cs t) ≡ g r ++ each g t
  unfolding each keep
  each_keep r [] t h = rw (h refl)
  each_keep r (c ∷ cs) t h = refl

  -- the splice law
  pub each_change : (k : Key) (f : Request → Request) (lo : ℕ) (t : Table) → Ordered lo t → ((f (at k t)).candidates ≡ [] → g (f (at k t)) ≡ [])
      → each g (change k f t) ≡ each g (below k t) ++ (g (f (at k t)) ++ each g (above k t))
  each_change k f lo t o h = rw (change_split k f lo t o, each_append, each_keep (f (at k t)) (f (at k t)).candidates (above k t) h)

  pub each_at : (k : Key) (lo : ℕ) (t : Table) → Ordered lo t → g (blank k) ≡ []
      → each g t ≡ each g (below k t) ++ (g (at k t) ++ each g (above k t))
  unfolding each at below above
  each_at k lo [] o h = rw h
  each_at k lo (r ∷ t) o h =
      elim (test (ltb (place k) (place r.key))) [
        | inl e ↦ let l = ltb-true (place k) (place r.key) e in
            rw (le-ltb (place r.key) (place k) (omega arith), lt-leb (place r.key) (place k) (omega arith), at_absent k (place r.key) (r ∷ t) l (omega arith, o.1, o.2), h)
        | inr e ↦ elim (test (eqb (place k) (place r.key))) [
          | inl d ↦ let q = eqb-true (place k) (place r.key) d in
              rw (d, le-ltb (place r.key) (place k) (omega arith), le-leb (place r.key) (place k) (omega arith), above_all k _ t (omega arith) o.2)
          | inr d ↦ let q : place r.key < place k = omega (arith, ltb-false, eqb-false (place k) (place r.key) d) in
              rw (d, lt-ltb (place r.key) (place k) q, le-leb (place r.key) (place k) (omega arith), append_assoc, ← (each_at k (suc (place r.key)) t o.2 h))
        ]
      ]

-- ---- rows and places

-- the rows before a key's, and those after them; the places likewise
abbrev pub rows_below : Key → Table → List Row
rows_below k t = rows_of (below k t)

abbrev pub rows_above : Key → Table → List Row
rows_above k t = rows_of (above k t)

abbrev pub places_below : Key → Table → List Place
places_below k t = places_of (below k t)

abbrev pub places_above : Key → Table → List Place
places_above k t = places_of (above k t)

rows_none : (r : Request) → r.candidates ≡ [] → rows_for r ≡ []
unfolding rows_for
rows_none r e = rw e

-- "flag or package only with an owner", who is a candidate
pub places_none : (r : Request) → Lawful r → r.candidates ≡ [] → places_for r ≡ []
unfolding places_for has
places_none r l e = go r.owner r.info r.«package» (rw e at l.owner) l.packed
  where
    go : (o : Option Owner) (i : Bool) (p : Option Package) → OwnerFits o [] → Packed r.key.kind o i p r.parents → place_for r i p ≡ []
    go (some o) i p f k = never f.0
    go none true (some p) f k = absurd k
    go none true none f k = never k.0
    go none false (some p) f k = never k.0
    go none false none f k = refl

module _ (k : Key) (lo : ℕ) (t : Table) (o : Ordered lo t) where
  pub rows_at : rows_of t ≡ rows_below k t ++ (rows_for (at k t) ++ rows_above k t)
  unfolding rows_for
  rows_at = each_at rows_for k lo t o refl

  pub places-at : places_of t ≡ places_below k t ++ (places_for (at k t) ++ places_above k t)
  unfolding places_for
  places-at = each_at places_for k lo t o refl

  module _ (f : Request → Request) where
    pub rows-change : rows_of (change k f t) ≡ rows_below k t ++ (rows_for (f (at k t)) ++ rows_above k t)
    rows-change = each_change rows_for k f lo t o (rows_none (f (at k t)))

    -- (`places_none` has the condition, where f leaves a lawful request)
    pub places-change : ((f (at k t)).candidates ≡ [] → places_for (f (at k t)) ≡ []) → places_of (change k f t) ≡ places_below k t ++ (places_for (f (at k t)) ++ places_above k t)
    places-change h = each_change places_for k f lo t o h
