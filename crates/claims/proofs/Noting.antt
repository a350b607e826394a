-- The claims of a connection are those of its rows: one pass notes them.
use Prim.Native.Nat.{ℕ, suc, ◌≤◌}
use mathlib.Core.Path.{◌≡◌, refl, ap, ◌∙◌}
use mathlib.Core.Logic.{inl, inr}
use mathlib.Core.Bool.{Bool, true, false, ◌&&◌, ◌||◌}
use mathlib.Core.List.{List, [], ◌∷◌, map, append-nil}
use mathlib.Core.Option.{Option, none, some}
use native.Mathlib.Omega.{arith}
use lib.Dec.{eqb}
use lib.ListN.{length}
use borrow.Author.Tests.{eqb-true, eq-eqb, ne_eqb}
use Rattle.std.specs.Prelude.{if◌then◌else◌}
use Rattle.ident.specs.Number.{Key, place}
use Rattle.regions.specs.declared.Row.{Row}
use Rattle.regions.specs.Regions.{each}
use Rattle.regions.proofs.Regions.{each_append}
use Rattle.machine.specs.State.{Candidate, Owner, Package, Request, Table, State, owner_is, is_some}
use Rattle.machine.specs.Table.{at, one, has, count_in, total, owner_in, owned_by}
use Rattle.machine.specs.Sound.{All, Ordered, OwnerFits, Lawful, Sound}
use Rattle.machine.proofs.Tests.{test, never, and_left}
use Rattle.machine.proofs.At.{at_here, at_there}
use Rattle.store.specs.Flat.{row_of, rows_for, rows_of, own_bit}
use Rattle.store.specs.FlatSound.{owns}
use Rattle.store.specs.Gather.{key_at}
use Rattle.store.proofs.Bits.{key_row, conn-row, owns-row}
use Rattle.store.proofs.Counts.{DistinctIn, distinct_in}
use Rattle.package_stages.specs.Changes.{has_place}
use Rattle.package_stages.specs.Dead.{filter}
use Rattle.claims.specs.Awaited.{awaiting, is_claim, claims_in, is_claim_row, claim_of}

-- ---- one row

pub claim-yes : (n : ℕ) (t : Table) (r : Row) → is_claim_row n t r ≡ true → claim_of n t r ≡ at (key_at r) t ∷ []
unfolding claim_of
claim-yes n t r e = rw e

pub claim-no : (n : ℕ) (t : Table) (r : Row) → is_claim_row n t r ≡ false → claim_of n t r ≡ []
unfolding claim_of
claim-no n t r e = rw e

pub awaiting-place : (q : Request) → awaiting q.«package» ≡ true → has_place q ≡ true
awaiting-place q e = go q.info q.«package» e
  where
    go : (i : Bool) (p : Option Package) → awaiting p ≡ true → (i || is_some p) ≡ true
    go true p e = refl
    go false (some p) e = refl
    go false none e = never e

module _ (n : ℕ) (r : Row) where
  pub row-free : r.conn ≡ n → (own_bit r ≡ 1 → ⊥) → (t : Table) → false ≡ is_claim_row n t r
  row-free c e t = rw (eq-eqb r.conn n c, ne_eqb (own_bit r) 1 e)

-- ---- the rows of a table

module _ (n : ℕ) (t : Table) (q : Request) (here : at q.key t ≡ q) where
  row_is : (c : Candidate) → is_claim_row n t (row_of q c) ≡ ((eqb c.connection n && owner_is c.connection q.owner) && awaiting q.«package»)
  row_is c = ap (λ (x : ℕ). (eqb x n && owns (row_of q c)) && awaiting (at (key_at (row_of q c)) t).«package») (conn-row q c)
      ∙ ap (λ (x : Bool). (eqb c.connection n && x) && awaiting (at (key_at (row_of q c)) t).«package») (owns-row q c)
      ∙ ap (λ (x : Request). (eqb c.connection n && owner_is c.connection q.owner) && awaiting x.«package») (ap (λ (k : Key). at k t) (key_row q c) ∙ here)

  row-else : (c : Candidate) → eqb c.connection n ≡ false → claim_of n t (row_of q c) ≡ []
  row-else c e = claim-no n t (row_of q c) (row_is c ∙ rw e)

  row-its : (c : Candidate) → eqb c.connection n ≡ true → claim_of n t (row_of q c) ≡ (if is_claim n q then q ∷ [] else [])
  row-its c e =
      let z = eqb-true c.connection n e in
      let x : is_claim_row n t (row_of q c) ≡ is_claim n q = row_is c ∙ rw (e, z) in
      elim (test (is_claim n q)) [
        | inl y ↦ claim-yes n t (row_of q c) (x ∙ y) ∙ ap (λ (k : Key). at k t ∷ []) (key_row q c) ∙ ap (λ (a : Request). a ∷ []) here ∙ rw y
        | inr y ↦ claim-no n t (row_of q c) (x ∙ y) ∙ rw y
      ]

  none_in_lem : (cs : List Candidate) → count_in (λ m. eqb m n) cs ≡ 0 → each (claim_of n t) (map (row_of q) cs) ≡ []
  unfolding each count_in
  none_in_lem [] h = refl
  none_in_lem (c ∷ cs) h = elim (test (eqb c.connection n)) [
    | inl e ↦ absurd (omega (arith, rw e at h))
    | inr e ↦ let m : count_in (λ m. eqb m n) cs ≡ 0 = omega (arith, rw e at h) in rw (row-else c e, none_in_lem cs m)
  ]

  one_in : (cs : List Candidate) → count_in (λ m. eqb m n) cs ≤ 1 → has n cs ≡ true → each (claim_of n t) (map (row_of q) cs) ≡ (if is_claim n q then q ∷ [] else [])
  unfolding each count_in has
  one_in [] h a = never a
  one_in (c ∷ cs) h a = elim (test (eqb c.connection n)) [
    | inl e ↦ let m : count_in (λ m. eqb m n) cs ≡ 0 = omega (arith, rw e at h) in rw (row-its c e, none_in_lem cs m) (append-nil (if is_claim n q then q ∷ [] else []))
    | inr e ↦ let m : count_in (λ m. eqb m n) cs ≤ 1 = omega (arith, rw e at h) in rw (row-else c e) (one_in cs m (rw e at a))
  ]

  -- who does not own the request has no claim in its rows
  free_in : (cs : List Candidate) → is_claim n q ≡ false → each (claim_of n t) (map (row_of q) cs) ≡ []
  unfolding each
  free_in [] z = refl
  free_in (c ∷ cs) z = elim (test (eqb c.connection n)) [
    | inl e ↦ let y : claim_of n t (row_of q c) ≡ [] = row-its c e ∙ rw z in rw (y, free_in cs z)
    | inr e ↦ rw (row-else c e, free_in cs z)
  ]

  owner-has : (o : Option Owner) (cs : List Candidate) → OwnerFits o cs → owner_is n o ≡ true → has n cs ≡ true
  owner-has none cs f e = never e
  owner-has (some o) cs f e = rw (eqb-true o.connection n e) at f.0

  claim-rows : Lawful q → DistinctIn q → each (claim_of n t) (rows_for q) ≡ (if is_claim n q then q ∷ [] else [])
  unfolding rows_for
  claim-rows l d = elim (test (is_claim n q)) [
    | inl e ↦ one_in q.candidates (d n) (owner-has q.owner q.candidates l.owner (and_left (owner_is n q.owner) (awaiting q.«package») e))
    | inr e ↦ free_in q.candidates e ∙ rw e
  ]

-- each request of a table is the one at its key
here_from : (t : Table) (lo : ℕ) (u : Table) → ((k : Key) → lo ≤ place k → at k t ≡ at k u) → Ordered lo u → All (λ r. at r.key t ≡ r) u
here_from t lo [] f o = tt
here_from t lo (r ∷ u) f o = (
  f r.key o.0 ∙ at_here r.key r u refl,
  here_from t (suc (place r.key)) u (λ k l. f k (omega (arith, o.0)) ∙ at_there k r u (λ e. omega arith)) o.2,
)

module _ (n : ℕ) (t : Table) where
  each_claims : (u : Table) → All (λ r. at r.key t ≡ r) u → All Lawful u → All DistinctIn u → each (claim_of n t) (rows_of u) ≡ claims_in n u
  unfolding each filter
  each_claims [] h l d = refl
  each_claims (q ∷ u) h l d =
      each_append (claim_of n t) (rows_for q) (rows_of u)
      ∙ rw (claim-rows n t q h.0 l.0 d.0, each_claims u h.1 l.1 d.1)
      (elim (test (is_claim n q)) [ inl e ↦ rw e | inr e ↦ rw e ])

  pub rows-claims : (st : State) → Sound st → st.table ≡ t → each (claim_of n t) (rows_of t) ≡ claims_in n t
  rows-claims st s e =
      let o : Ordered 0 t = rw e at s.bounded.ordered in
      let l : All Lawful t = rw e at s.bounded.lawful in
      let d : All DistinctIn t = rw e at (distinct_in st.table s.bounded.once) in
      each_claims t (here_from t 0 t (λ k h. refl) o) l d

  pub claims_few : (u : Table) → length (claims_in n u) ≤ owned_by n u
  unfolding filter total
  claims_few [] = omega arith
  claims_few (q ∷ u) = elim (test (is_claim n q)) [
    | inl e ↦ rw e (omega (arith, owned_one q.owner (and_left (owner_is n q.owner) (awaiting q.«package») e), claims_few u))
    | inr e ↦ rw e (omega (arith, claims_few u))
  ]
    where
      owned_one : (o : Option Owner) → owner_is n o ≡ true → owner_in (λ m. eqb m n) o ≡ 1
      owned_one none e = never e
      owned_one (some o) e = ap one e
