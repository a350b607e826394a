-- The laws of the table: what a change at one key does to order, counts, owners, and what it leaves alone.
use Prim.Native.Nat.{ℕ, zero, suc, ◌+◌, ◌≤◌, ◌<◌}
use mathlib.Core.Path.{◌≡◌, refl, sym, ap, ◌∙◌}
use mathlib.Core.Logic.{◌⊎◌, inl, inr}
use mathlib.Core.Bool.{Bool, true, false}
use mathlib.Core.List.{List, [], ◌∷◌}
use mathlib.Core.Option.{Option, none, some}
use native.Mathlib.Omega.{arith}
use lib.Dec.{ltb, leb, eqb}
use lib.ListN.{length}
use borrow.Author.Tests.{ltb-true, ltb-false, eqb-true, eqb-false, lt-ltb, le-ltb, eq-eqb, ne_eqb}
use Rattle.std.specs.Prelude.{if◌then◌else◌}
use Rattle.ident.specs.Number.{top, Key, place, other}
use Rattle.ident.proofs.Places.{place_same as place-inj}
use Rattle.machine.specs.State.{Candidate, Owner, Request, Table, blank}
use Rattle.machine.specs.Table.{at, keep, change, one, count_in, total, count, owner_in, owners, place_in, places_held, has, any, by, under, by_under}
use Rattle.machine.specs.Sound.{Ordered, All, Filled, ParentsFit, Lawful}
use Rattle.machine.proofs.Tests.{test, by_test, never}

-- ---- order

pub weaken : {lo hi : ℕ} (t : Table) → lo ≤ hi → Ordered hi t → Ordered lo t
weaken [] h o = tt
weaken (r ∷ t) h o = (omega arith, o.1, o.2)

ordered-keep : (lo : ℕ) (r : Request) (cs : List Candidate) (t : Table) → lo ≤ place r.key → r.key.hash < top → Ordered (suc (place r.key)) t → Ordered lo (keep r cs t)
unfolding keep
ordered-keep lo r [] t h s o = weaken t (omega arith) o
ordered-keep lo r (c ∷ cs) t h s o = (h, s, o)

pub ordered-change : (k : Key) (f : Request → Request) (lo : ℕ) (t : Table) → ((r : Request) → (f r).key ≡ r.key) → lo ≤ place k → k.hash < top → Ordered lo t → Ordered lo (change k f t)
unfolding change
ordered-change k f lo [] ff h s o = ordered-keep lo (f (blank k)) _ [] (rw (ff (blank k)) h) (rw (ff (blank k)) s) tt
ordered-change k f lo (r ∷ t) ff h s o =
    elim (test (ltb (place k) (place r.key))) [
      | inl e ↦ rw e (ordered-keep lo (f (blank k)) _ (r ∷ t) (rw (ff (blank k)) h) (rw (ff (blank k)) s) (rw (ff (blank k)) (omega (arith, ltb-true), o.1, o.2)))
      | inr e ↦ rw e (elim (test (eqb (place k) (place r.key))) [
        | inl d ↦ rw d (ordered-keep lo (f r) _ t (rw (ff r) o.0) (rw (ff r) o.1) (rw (ff r) o.2))
        | inr d ↦ rw d (o.0, o.1, ordered-change k f (suc (place r.key)) t ff (omega (arith, ltb-false, eqb-false (place k) (place r.key) d)) s o.2)
      ])
    ]

-- ---- what stands at a key

pub at_absent : (k : Key) (lo : ℕ) (t : Table) → place k < lo → Ordered lo t → at k t ≡ blank k
unfolding at
at_absent k lo [] h o = refl
at_absent k lo (r ∷ t) h o = rw (ne_eqb (place k) (place r.key) (λ e. omega (arith, o.0))) (at_absent k (suc (place r.key)) t (omega (arith, o.0)) o.2)

pub at_key : (k : Key) (lo : ℕ) (t : Table) → k.hash < top → Ordered lo t → (at k t).key ≡ k
unfolding at
at_key k lo [] s o = refl
at_key k lo (r ∷ t) s o =
    elim (test (eqb (place k) (place r.key))) [
      | inl e ↦ rw e (sym (place-inj k r.key s o.1 (eqb-true _ _ e)))
      | inr e ↦ rw e (at_key k (suc (place r.key)) t s o.2)
    ]

-- ---- weights

total-keep : (w : Request → ℕ) (r : Request) (cs : List Candidate) (t : Table) → total w (keep r cs t) ≤ w r + total w t
unfolding keep total
total-keep w r [] t = omega arith
total-keep w r (c ∷ cs) t = omega arith

-- a change at k changes a weight by no more than it does at k
pub total-change : (w : Request → ℕ) (k : Key) (f : Request → Request) (lo : ℕ) (t : Table) → w (blank k) ≡ 0 → Ordered lo t → total w (change k f t) + w (at k t) ≤ total w t + w (f (at k t))
unfolding change at total
total-change w k f lo [] z o = omega (arith, total-keep w (f (blank k)) (f (blank k)).candidates [])
total-change w k f lo (r ∷ t) z o =
    elim (test (ltb (place k) (place r.key))) [
      | inl e ↦ rw (e, at_absent k (place r.key) (r ∷ t) (ltb-true _ _ e) (omega arith, o.1, o.2)) (omega (arith, total-keep w (f (blank k)) (f (blank k)).candidates (r ∷ t)))
      | inr e ↦ rw e (elim (test (eqb (place k) (place r.key))) [
        | inl d ↦ rw d (omega (arith, total-keep w (f r) (f r).candidates t))
        | inr d ↦ rw d (omega (arith, total-change w k f (suc (place r.key)) t z o.2))
      ])
    ]

pub count-change : (q : Key → ℕ → Bool) (k : Key) (f : Request → Request) (t : Table) → Ordered 0 t
    → count q (change k f t) + count_in (q (at k t).key) (at k t).candidates ≤ count q t + count_in (q (f (at k t)).key) (f (at k t)).candidates
unfolding count_in
count-change q k f t o = total-change _ k f 0 t refl o

pub places-change : (k : Key) (f : Request → Request) (t : Table) → Ordered 0 t
    → places_held (change k f t) + place_in (at k t).info (at k t).«package» ≤ places_held t + place_in (f (at k t)).info (f (at k t)).«package»
places-change k f t o = total-change _ k f 0 t refl o

pub owners-change : (q : Key → ℕ → Bool) (k : Key) (f : Request → Request) (t : Table) → Ordered 0 t
    → owners q (change k f t) + owner_in (q (at k t).key) (at k t).owner ≤ owners q t + owner_in (q (f (at k t)).key) (f (at k t)).owner
owners-change q k f t o = total-change _ k f 0 t refl o

-- ---- a law of each request

pub all_at : (P : Request → Type 0) (k : Key) (t : Table) → P (blank k) → All P t → P (at k t)
unfolding at
all_at P k [] b a = b
all_at P k (r ∷ t) b a = elim (test (eqb (place k) (place r.key))) [ inl e ↦ rw e a.0 | inr e ↦ rw e (all_at P k t b a.1) ]

all_keep : (P : Request → Type 0) (r : Request) (cs : List Candidate) (t : Table) → P r → All P t → All P (keep r cs t)
unfolding keep
all_keep P r [] t p a = a
all_keep P r (c ∷ cs) t p a = (p, a)

pub all_change : (P : Request → Type 0) (k : Key) (f : Request → Request) (lo : ℕ) (t : Table) → Ordered lo t → P (f (at k t)) → All P t → All P (change k f t)
unfolding change at
all_change P k f lo [] o p a = all_keep P (f (blank k)) _ [] p a
all_change P k f lo (r ∷ t) o p a =
    elim (test (ltb (place k) (place r.key))) [
      | inl e ↦ rw e (all_keep P (f (blank k)) _ (r ∷ t) (rw (at_absent k (place r.key) (r ∷ t) (ltb-true _ _ e) (omega arith, o.1, o.2)) at p) a)
      | inr e ↦ rw e (elim (test (eqb (place k) (place r.key))) [
        | inl d ↦ rw d (all_keep P (f r) _ t (rw d at p) a.1)
        | inr d ↦ rw d (a.0, all_change P k f (suc (place r.key)) t o.2 (rw d at p) a.1)
      ])
    ]

pub blank-lawful : (k : Key) → Lawful (blank k)
blank-lawful k = record { candidates = tt; owner = tt; packed = refl; parents = record { hashes = tt; distinct = tt; few = omega arith }; mark = tt }

pub lawful_at : (k : Key) (t : Table) → All Lawful t → Lawful (at k t)
lawful_at k t a = all_at Lawful k t (blank-lawful k) a

-- ---- a request that is there has a candidate

filled-keep : (r : Request) (cs : List Candidate) (t : Table) → r.candidates ≡ cs → All Filled t → All Filled (keep r cs t)
unfolding keep
filled-keep r [] t e a = a
filled-keep r (c ∷ cs) t e a = (omega (arith, ap length e), a)

pub filled-change : (k : Key) (f : Request → Request) (t : Table) → All Filled t → All Filled (change k f t)
unfolding change
filled-change k f [] a = filled-keep (f (blank k)) _ [] refl tt
filled-change k f (r ∷ t) a =
    elim (test (ltb (place k) (place r.key))) [
      | inl e ↦ rw e (filled-keep (f (blank k)) _ (r ∷ t) refl a)
      | inr e ↦ rw e (elim (test (eqb (place k) (place r.key))) [ inl d ↦ rw d (filled-keep (f r) _ t refl a.1) | inr d ↦ rw d (a.0, filled-change k f t a.1) ])
    ]
