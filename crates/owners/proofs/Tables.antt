-- The rows of a table name the owners that its requests have.
use Prim.Native.Nat.{ℕ, suc, ◌+◌, ◌<◌}
use mathlib.Core.Path.{◌≡◌, refl, sym, ap, ◌∙◌}
use mathlib.Core.Logic.{inl, inr}
use mathlib.Core.List.{List, [], ◌∷◌, map}
use mathlib.Core.Option.{Option, none, some}
use native.Mathlib.Omega.{arith}
use lib.Dec.{eqb}
use borrow.Author.Tests.{eqb-true, eqb-false, eq-eqb, ne_eqb}
use Rattle.ident.specs.declared.Kind.{Kind}
use Rattle.ident.specs.declared.Kind.TheVariants.{Txid, Wtxid}
use Rattle.std.specs.Prelude.{if◌then◌else◌}
use Rattle.ident.specs.Number.{top, Key, base, place, txid, wtxid}
use Rattle.regions.specs.Regions.{each}
use Rattle.machine.specs.State.{Candidate, Owner, Request, Table, owner_is}
use Rattle.machine.specs.Table.{at, has}
use Rattle.machine.specs.Sound.{OwnerFits, Lawful, Ordered, All}
use Rattle.machine.specs.Owners.{Holding, holding_as, or_holding}
use Rattle.machine.proofs.Tests.{test}
use Rattle.machine.proofs.At.{at_here, at_there}
use Rattle.machine.proofs.Table.{at_absent}
use Rattle.store.specs.Flat.{row_of, rows_for, rows_of}
use Rattle.store.proofs.Bits.{key_row, owner-row}
use Rattle.owners.specs.Walk.{row_holding, holding_over}
use Rattle.owners.proofs.Rows.{or_none, over_append}

-- ---- the rows of one request

-- the owner, as far as it is among these candidates
abbrev amongst : Option Owner → List Candidate → Option Owner
amongst none cs = none
amongst (some o) cs = if has o.connection cs then some o else none

abbrev if_hash : ℕ → Request → Option Owner → Option Holding
if_hash h q o = if eqb q.key.hash h then holding_as q.key o else none

one_row : (h : ℕ) (q : Request) (c : Candidate) → row_holding h (row_of q c) ≡ if_hash h q (if owner_is c.connection q.owner then q.owner else none)
one_row h q c = λ i. if eqb (key_row q c i).hash h then holding_as (key_row q c i) (owner-row q c none i) else none

amongst_one : (k : Key) (o : Option Owner) (c : Candidate) (cs : List Candidate)
    → or_holding (holding_as k (if owner_is c.connection o then o else none)) (holding_as k (amongst o cs)) ≡ holding_as k (amongst o (c ∷ cs))
unfolding has
amongst_one k none c cs = refl
amongst_one k (some o) c cs =
    elim (test (eqb o.connection c.connection)) [
      | inl e ↦ rw (e, eq-eqb c.connection o.connection (sym (eqb-true o.connection c.connection e)))
      | inr e ↦ rw (e, ne_eqb c.connection o.connection (λ z. eqb-false o.connection c.connection e (sym z)))
    ]

amongst_none : (o : Option Owner) → amongst o [] ≡ none
unfolding has
amongst_none none = refl
amongst_none (some o) = refl

rows-name : (h : ℕ) (q : Request) (cs : List Candidate) → holding_over h (map (row_of q) cs) ≡ if_hash h q (amongst q.owner cs)
unfolding holding_over
rows-name h q [] = rw (amongst_none q.owner) (elim (test (eqb q.key.hash h)) [ inl e ↦ rw e | inr e ↦ rw e ])
rows-name h q (c ∷ cs) =
    (λ i. or_holding (one_row h q c i) (rows-name h q cs i))
    ∙ elim (test (eqb q.key.hash h)) [ inl e ↦ rw e (amongst_one q.key q.owner c cs) | inr e ↦ rw e ]

amongst_all : (o : Option Owner) (cs : List Candidate) → OwnerFits o cs → amongst o cs ≡ o
amongst_all none cs f = refl
amongst_all (some o) cs f = rw f.0

request-names : (h : ℕ) (q : Request) → Lawful q → holding_over h (rows_for q) ≡ if_hash h q q.owner
unfolding rows_for
request-names h q l = rows-name h q q.candidates ∙ ap (if_hash h q) (amongst_all q.owner q.candidates l.owner)

-- ---- of a table

-- the answer of the request at a hash, under one kind
abbrev held_as : (ℕ → Key) → ℕ → Table → Option Holding
held_as k h t = holding_as (k h) (at (k h) t).owner

module _ (h : ℕ) where
  absent : (k : ℕ → Key) (lo : ℕ) (t : Table) → place (k h) < lo → Ordered lo t → held_as k h t ≡ none
  absent k lo t l o = ap (λ (q : Request). holding_as (k h) q.owner) (at_absent (k h) lo t l o)

  here : (k : ℕ → Key) (q : Request) (t : Table) → q.key ≡ k h → held_as k h (q ∷ t) ≡ holding_as q.key q.owner
  here k q t e = ap (λ (x : Request). holding_as (k h) x.owner) (at_here (k h) q t (ap place (sym e))) ∙ ap (λ (j : Key). holding_as j q.owner) (sym e)

  there : (k : ℕ → Key) (q : Request) (t : Table) → (place (k h) ≡ place q.key → ⊥) → held_as k h (q ∷ t) ≡ held_as k h t
  there k q t n = ap (λ (x : Request). holding_as (k h) x.owner) (at_there (k h) q t n)

  -- a request of another hash is at neither key
  elsewhere : (q : Request) (t : Table) → q.key.hash < top → h < top → (q.key.hash ≡ h → ⊥) → or_holding (held_as txid h (q ∷ t)) (held_as wtxid h (q ∷ t)) ≡ or_holding (held_as txid h t)
      (held_as wtxid h t)
  elsewhere q t l m n = (λ i. or_holding (there txid q t (λ e. not_txid q.key.kind e) i) (there wtxid q t (λ e. not_wtxid q.key.kind e) i))
    where
      not_txid : (k : Kind) → 0 + h ≡ base k + q.key.hash → ⊥
      not_txid Txid e = n (omega arith)
      not_txid Wtxid e = omega arith

      not_wtxid : (k : Kind) → top + h ≡ base k + q.key.hash → ⊥
      not_wtxid Txid e = omega arith
      not_wtxid Wtxid e = n (omega arith)

  -- the request at the hash, under either kind, before all others
  at-hash : (k : Kind) (q : Request) (t : Table) → q.key ≡ record { kind = k; hash = h } → h < top → Ordered (suc (place q.key)) t
      → or_holding (held_as txid h (q ∷ t)) (held_as wtxid h (q ∷ t)) ≡ or_holding (holding_as q.key q.owner) (or_holding (held_as txid h t) (held_as wtxid h t))
  at-hash Txid q t e l o =
      let p : place q.key ≡ 0 + h = ap place e in
      (λ i. or_holding (here txid q t e i) (there wtxid q t (λ z. omega (arith, p)) i))
      ∙ ap (λ (x : Option Holding). or_holding (holding_as q.key q.owner) (or_holding x (held_as wtxid h t))) (sym (absent txid (suc (place q.key)) t (omega (arith, p)) o))
  at-hash Wtxid q t e l o =
      let p : place q.key ≡ top + h = ap place e in
      let a : held_as txid h (q ∷ t) ≡ none = there txid q t (λ z. omega (arith, p)) ∙ absent txid (suc (place q.key)) t (omega (arith, p)) o in
      let b : held_as wtxid h (q ∷ t) ≡ holding_as q.key q.owner = here wtxid q t e in
      let c : held_as txid h t ≡ none = absent txid (suc (place q.key)) t (omega (arith, p)) o in
      let d : held_as wtxid h t ≡ none = absent wtxid (suc (place q.key)) t (omega (arith, p)) o in
      (λ i. or_holding (a i) (b i)) ∙ sym (or_none (holding_as q.key q.owner)) ∙ (λ i. or_holding (holding_as q.key q.owner) (or_holding (sym c i) (sym d i)))

  nobody_there : none ≡ or_holding (held_as txid h []) (held_as wtxid h [])
  unfolding at
  nobody_there = refl

  pub table-names : h < top → (lo : ℕ) (t : Table) → Ordered lo t → All Lawful t → holding_over h (rows_of t) ≡ or_holding (held_as txid h t) (held_as wtxid h t)
  unfolding each holding_over
  table-names l lo [] o a = nobody_there
  table-names l lo (q ∷ t) o a =
      over_append h (rows_for q) (rows_of t)
      ∙ (λ i. or_holding (request-names h q a.0 i) (table-names l (suc (place q.key)) t o.2 a.1 i))
      ∙ elim (test (eqb q.key.hash h)) [
        | inl e ↦ rw e (sym (at-hash q.key.kind q t (ap (λ (x : ℕ). record { kind = q.key.kind; hash = x }) (eqb-true q.key.hash h e)) l o.2))
        | inr e ↦ rw e (sym (elsewhere q t o.1 l (eqb-false q.key.hash h e)))
      ]
