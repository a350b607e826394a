-- The requests that rows show are those that they were made of, without their places.
use Prim.Native.Nat.{ℕ, suc}
use mathlib.Core.Path.{◌≡◌, refl, sym, ap, ◌∙◌}
use mathlib.Core.Logic.{inl, inr}
use mathlib.Core.Bool.{false}
use mathlib.Core.List.{List, [], ◌∷◌, ◌++◌, map}
use mathlib.Core.Option.{Option, none, some}
use native.Mathlib.Omega.{arith}
use lib.Dec.{eqb}
use lib.ListN.{length}
use borrow.Author.Tests.{eq-eqb, ne_eqb}
use Rattle.std.specs.Prelude.{if◌then◌else◌}
use Rattle.ident.specs.Number.{place, key_of}
use Rattle.regions.specs.declared.Row.{Row}
use Rattle.regions.specs.Regions.{each}
use Rattle.machine.specs.State.{Candidate, Owner, Request, Table, owner_is}
use Rattle.machine.specs.Table.{has}
use Rattle.machine.specs.Sound.{AllFit, OwnerFits, Lawful, Filled, Ordered, All}
use Rattle.machine.proofs.Tests.{test}
use Rattle.store.specs.Flat.{row_of, rows_for, rows_of}
use Rattle.store.specs.Gather.{key_at, single, joined, join, gather}
use Rattle.store.proofs.Bits.{bit_one, key_row, mark-row, candidate-row, owner-row}
use Rattle.store.proofs.Counts.{eqb-sym}

-- a request without its place: its rows say nothing of that
abbrev pub bare : Request → Request
bare r = record { key = r.key; candidates = r.candidates; owner = r.owner; info = false; «package» = none; parents = []; fallback = r.fallback }

-- the owner, as far as it is among these candidates
abbrev amongst : Option Owner → List Candidate → Option Owner
amongst none cs = none
amongst (some o) cs = if has o.connection cs then some o else none

-- a request with only these candidates
abbrev part : Request → List Candidate → Request
part r cs = record { key = r.key; candidates = cs; owner = amongst r.owner cs; info = false; «package» = none; parents = []; fallback = r.fallback }

amongst_more : (o : Option Owner) (c : Candidate) (cs : List Candidate) → (if owner_is c.connection o then o else amongst o cs) ≡ amongst o (c ∷ cs)
unfolding has
amongst_more none c cs = refl
amongst_more (some o) c cs =
    rw (eqb-sym c.connection o.connection) (elim (test (eqb o.connection c.connection)) [ inl e ↦ rw e | inr e ↦ rw e ])

joined-row : (r : Request) (c : Candidate) (cs : List Candidate) → key_of c.item ≡ some r.key → joined (row_of r c) (part r cs) ≡ part r (c ∷ cs)
joined-row r c cs e = rw (candidate-row r c e, owner-row r c (amongst r.owner cs), amongst_more r.owner c cs)

single-row : (r : Request) (c : Candidate) → key_of c.item ≡ some r.key → single (row_of r c) ≡ part r (c ∷ [])
unfolding has
single-row r c e = rw (candidate-row r c e, key_row r c, owner-row r c none, mark-row r c, bit_one r.fallback) (ap (λ (o : Option Owner).
    record { key = r.key; candidates = c ∷ []; owner = o; info = false; «package» = none; parents = []; fallback = r.fallback }) (nil r.owner ∙ amongst_more r.owner c []))
  where
    nil : (o : Option Owner) → (if owner_is c.connection o then o else none) ≡ (if owner_is c.connection o then o else amongst o [])
    nil none = refl
    nil (some o) = refl

join_same : (r : Request) (c : Candidate) (cs : List Candidate) (t : Table) → key_of c.item ≡ some r.key → join (row_of r c) (part r cs ∷ t) ≡ part r (c ∷ cs) ∷ t
unfolding join
join_same r c cs t e = rw (key_row r c, eq-eqb (place r.key) (place r.key) refl, joined-row r c cs e)

join_first : (r : Request) (c : Candidate) (t : Table) → key_of c.item ≡ some r.key → Ordered (suc (place r.key)) t → join (row_of r c) t ≡ part r (c ∷ []) ∷ t
unfolding join
join_first r c [] e o = rw (single-row r c e)
join_first r c (q ∷ t) e o =
    let k : place (key_at (row_of r c)) ≡ place r.key = ap place (key_row r c) in
    rw (ne_eqb (place (key_at (row_of r c))) (place q.key) (λ z. omega (arith, o.0)), single-row r c e)

-- the rows of one request, before those of later ones
gather-rows : (r : Request) (c : Candidate) (cs : List Candidate) (rs : List Row) (t : Table) → AllFit r.key (c ∷ cs) → gather rs ≡ t → Ordered (suc (place r.key)) t
    → gather (map (row_of r) (c ∷ cs) ++ rs) ≡ part r (c ∷ cs) ∷ t
unfolding gather
gather-rows r c [] rs t f e o = rw e (join_first r c t f.0.item o)
gather-rows r c (d ∷ cs) rs t f e o = rw (gather-rows r d cs rs t f.1 e o) (join_same r c (d ∷ cs) t f.0.item)

-- all of a request's candidates
part_all : (r : Request) → Lawful r → part r r.candidates ≡ bare r
part_all r l = go r.owner l.owner refl
  where
    go : (o : Option Owner) → OwnerFits o r.candidates → r.owner ≡ o → part r r.candidates ≡ bare r
    go none a e = rw e
    go (some o) a e = rw (e, a.0)

ordered-bare : (lo : ℕ) (t : Table) → Ordered lo t → Ordered lo (map bare t)
ordered-bare lo [] o = tt
ordered-bare lo (r ∷ t) o = (o.0, o.1, ordered-bare (suc (place r.key)) t o.2)

-- the whole table
pub gather-table : (lo : ℕ) (t : Table) → Ordered lo t → All Lawful t → All Filled t → gather (rows_of t) ≡ map bare t
unfolding each rows_for gather
gather-table lo [] o l f = refl
gather-table lo (r ∷ t) o l f = go r.candidates refl (gather-table (suc (place r.key)) t o.2 l.1 f.1)
  where
    go : (cs : List Candidate) → r.candidates ≡ cs → gather (rows_of t) ≡ map bare t → gather (map (row_of r) r.candidates ++ rows_of t) ≡ bare r ∷ map bare t
    go [] e ih = absurd (omega (arith, f.0, ap length e))
    go (c ∷ cs) e ih =
        ap (λ (l : List Candidate). gather (map (row_of r) l ++ rows_of t)) e
        ∙ gather-rows r c cs (rows_of t) (map bare t) (rw e at l.0.candidates) ih (ordered-bare _ t o.2)
        ∙ ap (λ (l : List Candidate). part r l ∷ map bare t) (sym e)
        ∙ ap (λ (q : Request). q ∷ map bare t) (part_all r l.0)
