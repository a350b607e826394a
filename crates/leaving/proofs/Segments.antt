-- disconnected in parts: the keys up to the next owned one are cut together, and this is the cut of a range of keys.
use Prim.Native.Nat.{ℕ, suc, ◌≤◌, ◌<◌}
use mathlib.Core.Path.{◌≡◌, refl, sym, ap, ◌∙◌}
use mathlib.Core.Logic.{inl, inr}
use mathlib.Core.Bool.{Bool, true, false, ◌&&◌}
use mathlib.Core.List.{List, [], ◌∷◌, ◌++◌}
use native.Mathlib.Omega.{arith}
use lib.Dec.{eqb}
use borrow.Author.Tests.{eqb-true, eqb-false, ne_eqb}
use Rattle.std.specs.Prelude.{if◌then◌else◌}
use Rattle.ident.specs.Number.{top, Key, place}
use Rattle.ident.proofs.Places.{place_same as place-inj}
use Rattle.machine.specs.Limits.{Limits}
use Rattle.machine.specs.State.{Candidate, Request, Table, with_candidates, owner_is}
use Rattle.machine.specs.Table.{at, has}
use Rattle.machine.specs.Announce.{without}
use Rattle.machine.specs.Fail.{Listed, nothing}
use Rattle.machine.specs.Leave.{keys_of, drop_at_key, drop_each}
use Rattle.machine.specs.Sound.{Ordered, All, Filled}
use Rattle.machine.proofs.Tests.{test, by_test}
use Rattle.machine.proofs.Table.{ordered-change, filled-change, all_at}
use Rattle.machine.proofs.First.{without-absent as without-none}
use Rattle.machine.proofs.At.{kept, kept_some, at_here, at_there, at_same, at_other}
use Rattle.package_stages.specs.Dead.{filter}
use Rattle.announcing.proofs.Swapping.{table_same}
use Rattle.merging.specs.Merges.{Rising}
use Rattle.cutting.specs.Cuts.{between, cut_at, cut_each, cuts}
use Rattle.leaving.specs.Parts.{listed, Unowned}

-- ---- what a cut leaves at each key

abbrev cut_one : ℕ → Key → Request → Request
cut_one n j r = if owner_is n r.owner then r else kept j (with_candidates (without n r.candidates) r) (without n r.candidates)

at_cut_here : (n : ℕ) (j : Key) (t : Table) → Ordered 0 t → at j (cut_at n j t) ≡ cut_one n j (at j t)
unfolding cut_at
at_cut_here n j t o = elim (test (owner_is n (at j t).owner)) [
  | inl e ↦ rw e
  | inr e ↦ rw e (at_same j (λ q. with_candidates (without n q.candidates) q) 0 t (λ r. refl) o)
]

pub at_cut-else : (n : ℕ) (j k : Key) (t : Table) → (place j ≡ place k → ⊥) → at j (cut_at n k t) ≡ at j t
unfolding cut_at
at_cut-else n j k t d = by_test (λ (x : Table). at j x ≡ at j t) (owner_is n (at k t).owner) (λ e. refl) (λ e. at_other j k (λ q. with_candidates (without n q.candidates) q) t (λ r. refl) d)

pub ordered-cut : (n : ℕ) (k : Key) (t : Table) → k.hash < top → Ordered 0 t → Ordered 0 (cut_at n k t)
unfolding cut_at
ordered-cut n k t s o = by_test (Ordered 0) (owner_is n (at k t).owner) (λ e. o) (λ e. ordered-change k (λ q. with_candidates (without n q.candidates) q) 0 t (λ r. refl) (omega arith) s o)

pub filled-cut : (n : ℕ) (k : Key) (t : Table) → All Filled t → All Filled (cut_at n k t)
unfolding cut_at
filled-cut n k t f = by_test (All Filled) (owner_is n (at k t).owner) (λ e. f) (λ e. filled-change k (λ q. with_candidates (without n q.candidates) q) t f)

pub ordered_each : (n lo : ℕ) (ks : List Key) (t : Table) → Rising lo ks → Ordered 0 t → Ordered 0 (cut_each n ks t)
unfolding cut_each
ordered_each n lo [] t r o = o
ordered_each n lo (k ∷ ks) t r o = ordered_each n (suc (place k)) ks (cut_at n k t) r.2 (ordered-cut n k t r.1 o)

pub filled_each : (n : ℕ) (ks : List Key) (t : Table) → All Filled t → All Filled (cut_each n ks t)
unfolding cut_each
filled_each n [] t f = f
filled_each n (k ∷ ks) t f = filled_each n ks (cut_at n k t) (filled-cut n k t f)

pub listed_below : (j : Key) (lo : ℕ) (ks : List Key) → Rising lo ks → place j < lo → listed j ks ≡ false
unfolding listed
listed_below j lo [] r h = refl
listed_below j lo (k ∷ ks) r h = rw (ne_eqb (place k) (place j) (λ e. omega (arith, r.0)), listed_below j (suc (place k)) ks r.2 (omega (arith, r.0)))

at_each : (n : ℕ) (j : Key) (lo : ℕ) (ks : List Key) (t : Table) → j.hash < top → Rising lo ks → Ordered 0 t → at j (cut_each n ks t) ≡ (if listed j ks then cut_one n j (at j t) else at j t)
unfolding cut_each listed
at_each n j lo [] t s r o = refl
at_each n j lo (k ∷ ks) t s r o =
    let rest = at_each n j (suc (place k)) ks (cut_at n k t) s r.2 (ordered-cut n k t r.1 o) in
    elim (test (eqb (place k) (place j))) [
      | inl e ↦ let q : k ≡ j = place-inj k j r.1 s (eqb-true (place k) (place j) e) in
          let below : listed j ks ≡ false = listed_below j (suc (place k)) ks r.2 (omega (arith, eqb-true (place k) (place j) e)) in
          rw e (rest ∙ ap (λ (b : Bool). if b then cut_one n j (at j (cut_at n k t)) else at j (cut_at n k t)) below ∙ ap (λ (x : Key). at j (cut_at n x t)) q ∙ at_cut_here n j t o)
      | inr e ↦ rw e (rest ∙ ap (λ (x : Request). if listed j ks then cut_one n j x else x) (at_cut-else n j k t (λ d. eqb-false (place k) (place j) e (sym d))))
    ]

-- ---- nothing goes where the connection is no candidate

all_kept : (j : Key) (t : Table) → All Filled t → All (λ r. kept j r r.candidates ≡ r) t
all_kept j [] f = tt
all_kept j (r ∷ t) f = (kept_some j r r.candidates f.0, all_kept j t f.1)

cut-nobody : (n : ℕ) (j : Key) (t : Table) → All Filled t → has n (at j t).candidates ≡ false → cut_one n j (at j t) ≡ at j t
cut-nobody n j t f h =
    by_test (λ (x : Request). x ≡ at j t) (owner_is n (at j t).owner) (λ e. refl)
    (λ e. ap (λ (cs : List Candidate). kept j (with_candidates cs (at j t)) cs) (without-none n (at j t).candidates h) ∙ all_at (λ r. kept j r r.candidates ≡ r) j t refl (all_kept j t f))

-- lists that have the same of the keys where it is a candidate
pub same_cuts : (n lo lo' : ℕ) (ks js : List Key) (t : Table) → Rising lo ks → Rising lo' js → Ordered 0 t → All Filled t
    → ((j : Key) → j.hash < top → has n (at j t).candidates ≡ true → listed j ks ≡ listed j js) → cut_each n ks t ≡ cut_each n js t
same_cuts n lo lo' ks js t r r' o f e =
    table_same (cut_each n ks t) (cut_each n js t) (ordered_each n lo ks t r o) (ordered_each n lo' js t r' o) (filled_each n ks t f) (filled_each n js t f)
    (λ j s. at_each n j lo ks t s r o ∙ agree j s ∙ sym (at_each n j lo' js t s r' o))
  where
    none : (j : Key) → has n (at j t).candidates ≡ false → (b : Bool) → (if b then cut_one n j (at j t) else at j t) ≡ at j t
    none j h true = cut-nobody n j t f h
    none j h false = refl

    agree : (j : Key) → j.hash < top → (if listed j ks then cut_one n j (at j t) else at j t) ≡ (if listed j js then cut_one n j (at j t) else at j t)
    agree j s = elim (test (has n (at j t).candidates)) [
      | inl h ↦ ap (λ (b : Bool). if b then cut_one n j (at j t) else at j t) (e j s h)
      | inr h ↦ none j h (listed j ks) ∙ sym (none j h (listed j js))
    ]

-- ---- the keys of a connection

rising_weaken : (lo hi : ℕ) (ks : List Key) → lo ≤ hi → Rising hi ks → Rising lo ks
rising_weaken lo hi [] h r = tt
rising_weaken lo hi (k ∷ ks) h r = (omega (arith, r.0), r.1, r.2)

pub rising-keys : (n : ℕ) (p : Key → Bool) (lo : ℕ) (t : Table) → Ordered lo t → Rising lo (filter p (keys_of n t))
unfolding keys_of filter
rising-keys n p lo [] o = tt
rising-keys n p lo (r ∷ t) o =
    let rest = rising-keys n p (suc (place r.key)) t o.2 in
    let past = rising_weaken lo (suc (place r.key)) (filter p (keys_of n t)) (omega (arith, o.0)) rest in
    elim (test (has n r.candidates)) [
      | inl e ↦ rw e (elim (test (p r.key)) [ inl d ↦ rw d (o.0, o.1, rest) | inr d ↦ rw d past ])
      | inr e ↦ rw e past
    ]

first_whole : (p : Key → Bool) (x : Bool) (k j : Key) (ks : List Key) → listed j (filter p ks) ≡ false → eqb (place k) (place j) ≡ true → listed j (filter p (if x then k ∷ ks else ks)) ≡ (x && p k)
unfolding filter listed
first_whole p true k j ks b e = elim (test (p k)) [ inl d ↦ rw (d, e) | inr d ↦ rw d b ]
first_whole p false k j ks b e = b

first_part : (p : Key → Bool) (x : Bool) (k j : Key) (ks : List Key) → eqb (place k) (place j) ≡ false → listed j (filter p (if x then k ∷ ks else ks)) ≡ listed j (filter p ks)
unfolding filter listed
first_part p true k j ks e = elim (test (p k)) [ inl d ↦ rw (d, e) | inr d ↦ rw d ]
first_part p false k j ks e = refl

pub listed-keys : (n : ℕ) (p : Key → Bool) (lo : ℕ) (t : Table) (j : Key) → j.hash < top → Ordered lo t → listed j (filter p (keys_of n t)) ≡ (has n (at j t).candidates && p j)
unfolding keys_of
listed-keys n p lo [] j s o = unfold listed at has filter in refl
listed-keys n p lo (r ∷ t) j s o =
    let rest = listed-keys n p (suc (place r.key)) t j s o.2 in
    elim (test (eqb (place r.key) (place j))) [
      | inl e ↦ let q : r.key ≡ j = place-inj r.key j o.1 s (eqb-true (place r.key) (place j) e) in
          let below : listed j (filter p (keys_of n t)) ≡ false = listed_below j (suc (place r.key)) (filter p (keys_of n t)) (rising-keys n p (suc (place r.key)) t o.2)
          (omega (arith, eqb-true (place r.key) (place j) e)) in
          let here : at j (r ∷ t) ≡ r = at_here j r t (sym (eqb-true (place r.key) (place j) e)) in
          first_whole p (has n r.candidates) r.key j (keys_of n t) below e ∙ ap (λ (k : Key). has n r.candidates && p k) q ∙ ap (λ (x : Request). has n x.candidates && p j) (sym here)
      | inr e ↦ let there : at j (r ∷ t) ≡ at j t = at_there j r t (λ d. eqb-false (place r.key) (place j) e (sym d)) in
          first_part p (has n r.candidates) r.key j (keys_of n t) e ∙ rest ∙ ap (λ (x : Request). has n x.candidates && p j) (sym there)
    ]

-- ---- a part of the keys is a range, if the keys of the connection in the range are those of the part

pub part_between : (n lo : ℕ) (ks : List Key) (a b : Key) (t : Table) → Rising lo ks → Ordered 0 t → All Filled t
    → ((j : Key) → j.hash < top → has n (at j t).candidates ≡ true → listed j ks ≡ between a b j) → cut_each n ks t ≡ cuts n (between a b) t
part_between n lo ks a b t r o f e =
    same_cuts n lo 0 ks (filter (between a b) (keys_of n t)) t r (rising-keys n (between a b) 0 t o) o f
    (λ j s h. e j s h ∙ sym (listed-keys n (between a b) 0 t j s o ∙ rw h))

-- ---- disconnected

drop-unowned : (m : Limits) (n now : ℕ) (k : Key) (t : Table) → owner_is n (at k t).owner ≡ false → drop_at_key m n now k t ≡ nothing (cut_at n k t)
unfolding drop_at_key cut_at
drop-unowned m n now k t e = rw e

-- the keys before the next owned one are cut together
pub drop_part : (m : Limits) (n now lo : ℕ) (ks js : List Key) (t : Table) → Rising lo ks → Unowned n t ks → drop_each m n now (ks ++ js) t ≡ drop_each m n now js (cut_each n ks t)
unfolding drop_each cut_each
drop_part m n now lo [] js t r u = refl
drop_part m n now lo (k ∷ ks) js t r u =
    ap (λ (a : Listed). after a) (drop-unowned m n now k t u.0) ∙ drop_part m n now (suc (place k)) ks js (cut_at n k t) r.2 (still (suc (place k)) ks r.2 (omega arith) u.1)
  where
    after : Listed → Listed
    after a = record { keys = a.keys ++ (drop_each m n now (ks ++ js) a.table).keys; table = (drop_each m n now (ks ++ js) a.table).table }

    still : (lo : ℕ) (is : List Key) → Rising lo is → place k < lo → Unowned n t is → Unowned n (cut_at n k t) is
    still lo [] r h u = tt
    still lo (i ∷ is) r h u = (ap (λ (x : Request). owner_is n x.owner) (at_cut-else n i k t (λ e. omega (arith, r.0))) ∙ u.0, still (suc (place i)) is r.2 (omega (arith, r.0)) u.1)
