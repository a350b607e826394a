-- What the machine counts over its requests is a count of rows, or the number of places.
use Prim.Native.Nat.{ℕ, ◌+◌, ◌≤◌}
use mathlib.Core.Path.{◌≡◌, refl, sym, ◌∙◌}
use mathlib.Core.Logic.{inl, inr}
use mathlib.Core.Bool.{Bool, true, false, ◌&&◌, and-false}
use mathlib.Core.List.{List, [], ◌∷◌, ◌++◌, map}
use mathlib.Core.Option.{Option, none, some}
use native.Mathlib.Omega.{arith}
use lib.Dec.{eqb}
use lib.ListN.{length, length-append}
use borrow.Author.Tests.{eqb-true, eqb-false, eq-eqb, ne_eqb}
use Rattle.ident.specs.Number.{Key, place, wtxid}
use Rattle.regions.specs.declared.Row.{Row}
use Rattle.regions.specs.Regions.{each}
use Rattle.machine.specs.State.{Candidate, Owner, Package, Request, Table, owner_is}
use Rattle.machine.specs.Table.{count_in, total, count, owner_in, owners, place_in, places_held, has, any, by, under, by_under}
use Rattle.machine.specs.Sound.{OwnerFits, Lawful, All}
use Rattle.machine.proofs.Tests.{test}
use Rattle.machine.proofs.Leaving.{count-has as in-has}
use Rattle.store.specs.Flat.{row_of, rows_for, rows_of, place_for, places_for, places_of}
use Rattle.store.specs.Gather.{key_at}
use Rattle.store.specs.FlatSound.{count_rows, hash_at, owns, owns_key}
use Rattle.store.proofs.Bits.{key_row, conn-row, owns-row}

-- ---- counts of rows

pub rows_append : (p : Row → Bool) (a b : List Row) → count_rows p (a ++ b) ≡ count_rows p a + count_rows p b
unfolding count_rows
rows_append p [] b = omega arith
rows_append p (r ∷ a) b = omega (arith, rows_append p a b)

pub rows_same : (p q : Row → Bool) (rs : List Row) → ((r : Row) → p r ≡ q r) → count_rows p rs ≡ count_rows q rs
unfolding count_rows
rows_same p q [] h = refl
rows_same p q (r ∷ rs) h = rw (h r, rows_same p q rs h)

pub rows_all : (rs : List Row) → count_rows (λ r. true) rs ≡ length rs
unfolding count_rows
rows_all [] = refl
rows_all (r ∷ rs) = omega (arith, rows_all rs)

-- ---- announcements

count-in : (P : Key → ℕ → Bool) (q : Request) (cs : List Candidate) → count_rows (λ r. P (key_at r) r.conn) (map (row_of q) cs) ≡ count_in (P q.key) cs
unfolding count_rows count_in
count-in P q [] = refl
count-in P q (c ∷ cs) = rw (key_row q c, conn-row q c, count-in P q cs)

pub count-rows : (P : Key → ℕ → Bool) (t : Table) → count_rows (λ r. P (key_at r) r.conn) (rows_of t) ≡ count P t
unfolding each rows_for total
count-rows P [] = unfold count_rows in refl
count-rows P (r ∷ t) = rows_append _ (map (row_of r) r.candidates) (rows_of t) ∙ rw (count-in P r r.candidates, count-rows P t)

module _ (t : Table) where
  pub held-rows : length (rows_of t) ≡ count any t
  held-rows = sym (rows_all (rows_of t)) ∙ count-rows any t

  pub by_rows : (n : ℕ) → count_rows (λ r. eqb r.conn n) (rows_of t) ≡ count (by n) t
  by_rows n = count-rows (by n) t

  pub under_rows : (h : ℕ) → count_rows (λ r. eqb (hash_at r) h) (rows_of t) ≡ count (under h) t
  unfolding key_at
  under_rows h = count-rows (under h) t

  pub by_under_rows : (n h : ℕ) → count_rows (λ r. eqb (hash_at r) h && eqb r.conn n) (rows_of t) ≡ count (by_under n h) t
  unfolding key_at
  by_under_rows n h = count-rows (by_under n h) t

-- ---- owners: each is one candidate of its request

abbrev pub Distinct : List Candidate → Type 0
Distinct cs = (n : ℕ) → count_in (λ m. eqb m n) cs ≤ 1

abbrev pub DistinctIn : Request → Type 0
DistinctIn r = Distinct r.candidates

pub in_same : (p q : ℕ → Bool) (cs : List Candidate) → ((m : ℕ) → p m ≡ q m) → count_in p cs ≡ count_in q cs
unfolding count_in
in_same p q [] h = refl
in_same p q (c ∷ cs) h = rw (h c.connection, in_same p q cs h)

pub in_none : (cs : List Candidate) → count_in (λ m. false) cs ≡ 0
unfolding count_in
in_none [] = refl
in_none (c ∷ cs) = omega (arith, in_none cs)

pub in_hasnt : (n : ℕ) (cs : List Candidate) → count_in (λ m. eqb m n) cs ≡ 0 → has n cs ≡ false
unfolding has count_in
in_hasnt n [] h = refl
in_hasnt n (c ∷ cs) h = elim (test (eqb c.connection n))
    [ inl e ↦ absurd (omega (arith, rw e at h)) | inr e ↦ let z : count_in (λ m. eqb m n) cs ≡ 0 = omega (arith, rw e at h) in rw e (in_hasnt n cs z) ]

pub eqb-sym : (m n : ℕ) → eqb m n ≡ eqb n m
eqb-sym m n = elim (test (eqb n m)) [
  | inl e ↦ rw e (eq-eqb m n (sym (eqb-true n m e)))
  | inr e ↦ rw e (ne_eqb m n (λ z. eqb-false n m e (sym z)))
]

-- a test that the owner alone can pass is a test of the owner
at_owner : (p : ℕ → Bool) (n m : ℕ) → (p m && eqb n m) ≡ (p n && eqb m n)
at_owner p n m = elim (test (eqb n m)) [
  | inl e ↦ rw (eqb-true n m e)
  | inr e ↦ rw (eqb-sym m n, e, and-false (p m), and-false (p n))
]

owner_one : (p : ℕ → Bool) (o : Option Owner) (cs : List Candidate) → OwnerFits o cs → Distinct cs → count_in (λ m. p m && owner_is m o) cs ≡ owner_in p o
owner_one p none cs f d = in_same (λ m. p m && false) (λ m. false) cs (λ m. and-false (p m)) ∙ in_none cs
owner_one p (some o) cs f d =
    let n : ℕ = o.connection in
    in_same (λ m. p m && eqb n m) (λ m. p n && eqb m n) cs (at_owner p n)
    ∙ elim (test (p n)) [
      | inl e ↦ rw e (omega (arith, in-has n cs f.0, d n))
      | inr e ↦ rw e (in_none cs)
    ]

owner-in : (P : Key → ℕ → Bool) (q : Request) (cs : List Candidate) → count_rows (λ r. P (key_at r) r.conn && owns r) (map (row_of q) cs) ≡ count_in (λ m. P q.key m && owner_is m q.owner) cs
unfolding count_rows count_in
owner-in P q [] = refl
owner-in P q (c ∷ cs) = rw (key_row q c, conn-row q c, owns-row q c, owner-in P q cs)

pub owner-rows : (P : Key → ℕ → Bool) (t : Table) → All Lawful t → All DistinctIn t → count_rows (λ r. P (key_at r) r.conn && owns r) (rows_of t) ≡ owners P t
unfolding each rows_for total
owner-rows P [] l d = unfold count_rows in refl
owner-rows P (r ∷ t) l d =
    rows_append _ (map (row_of r) r.candidates) (rows_of t)
    ∙ rw (owner-in P r r.candidates, owner_one (P r.key) r.owner r.candidates l.0.owner d.0, owner-rows P t l.1 d.1)

-- "a connection at most once over both kinds of a hash"
pub distinct_in : (t : Table) → ((n h : ℕ) → count (by_under n h) t ≤ 1) → All DistinctIn t
unfolding total
distinct_in [] o = tt
distinct_in (r ∷ t) o = ((λ n. first n), distinct_in t (λ n h. omega (arith, o n h)))
  where
    first : (n : ℕ) → count_in (λ m. eqb m n) r.candidates ≤ 1
    first n =
        let e : count_in (by_under n r.key.hash r.key) r.candidates ≡ count_in (λ m. eqb m n) r.candidates = in_same _ _ r.candidates
        (λ m. rw (eq-eqb r.key.hash r.key.hash refl)) in
        omega (arith, o n r.key.hash)

-- the test of one Wtxid key
abbrev pub at_wtxid : ℕ → Key → ℕ → Bool
at_wtxid h k m = eqb (place k) (place (wtxid h))

module _ (t : Table) (l : All Lawful t) (d : All DistinctIn t) where
  pub own_by_rows : (n : ℕ) → count_rows (λ r. eqb r.conn n && owns r) (rows_of t) ≡ owners (by n) t
  own_by_rows n = owner-rows (by n) t l d

  pub own_under_rows : (h : ℕ) → count_rows (λ r. eqb (hash_at r) h && owns r) (rows_of t) ≡ owners (under h) t
  unfolding key_at
  own_under_rows h = owner-rows (under h) t l d

  pub own-wtxid-rows : (h : ℕ) → count_rows (owns_key h) (rows_of t) ≡ owners (at_wtxid h) t
  own-wtxid-rows h = owner-rows (at_wtxid h) t l d

-- ---- places

place-in : (r : Request) (i : Bool) (p : Option Package) → length (place_for r i p) ≡ place_in i p
place-in r i (some p) = refl
place-in r true none = refl
place-in r false none = refl

pub places-rows : (t : Table) → length (places_of t) ≡ places_held t
unfolding each places_for total
places-rows [] = refl
places-rows (r ∷ t) = length-append (place_for r r.info r.«package») (places_of t) ∙ rw (place-in r r.info r.«package», places-rows t)
