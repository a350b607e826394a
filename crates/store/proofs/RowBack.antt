-- A row that fits is the row of the candidate that it shows.
use Prim.Native.Nat.{ℕ, zero, suc, ◌+◌, ◌*◌, ◌/◌, ◌%◌, ◌≤◌, ◌<◌}
use mathlib.Core.Path.{◌≡◌, refl, sym, ap, ◌∙◌}
use mathlib.Core.Logic.{inl, inr}
use mathlib.Core.Bool.{Bool, true, false}
use mathlib.Core.List.{List, [], ◌∷◌, map}
use mathlib.Core.Option.{Option, none, some}
use native.Mathlib.Omega.{arith}
use lib.Dec.{eqb}
use borrow.Author.Tests.{eqb-true, eqb-false, eq-eqb}
use Rattle.ident.specs.declared.Kind.{Kind}
use Rattle.ident.specs.declared.Kind.TheVariants.{Txid, Wtxid}
use Rattle.ident.specs.Number.{top, Key, kind_of, key_as, kind_is, kind_number}
use Rattle.regions.specs.declared.Row.{Row}
use Rattle.regions.specs.Rows.{quad_number}
use Rattle.machine.specs.State.{Candidate, Owner, Package, Request, owner_is}
use Rattle.machine.specs.Table.{one, has}
use Rattle.machine.specs.Sound.{Fits, OwnerFits, Marked}
use Rattle.machine.proofs.Tests.{test, or_left, or_right, or_true}
use Rattle.store.specs.Flat.{witness_bit, deadline_for, bits_of, own_bit, row_of}
use Rattle.store.specs.Gather.{key_at, item_kind_as, candidate_at, owner_at}
use Rattle.store.specs.FlatSound.{owns, mark_bit, RowFits}
use Rattle.store.proofs.Quads.{quad-number, number-top}
use Rattle.store.proofs.Counts.{eqb-sym}

-- ---- bits

bit-kind : (n : ℕ) → n ≤ 1 → kind_number (kind_is n) ≡ n
bit-kind zero h = refl
bit-kind (suc zero) h = refl
bit-kind (suc (suc n)) h = absurd (omega arith)

bit-witness : (n v : ℕ) → n ≤ 1 → v ≤ 1 → (n ≡ 1 → v ≡ 0) → witness_bit (item_kind_as (kind_is n) v) ≡ v
bit-witness zero zero h l p = refl
bit-witness zero (suc zero) h l p = refl
bit-witness zero (suc (suc v)) h l p = absurd (omega arith)
bit-witness (suc n) v h l p = sym (p (omega arith))

pub bit_test : (n : ℕ) → n ≤ 1 → one (eqb n 1) ≡ n
bit_test zero h = refl
bit_test (suc zero) h = refl
bit_test (suc (suc n)) h = absurd (omega arith)

horner : (a b c d : ℕ) {e p q r s n : ℕ} → e ≡ s → d + 2 * s ≡ r → c + 2 * r ≡ q → b + 2 * q ≡ p → a + 2 * p ≡ n → a + 2 * b + 4 * c + 8 * d + 16 * e ≡ n
horner a b c d f g h i j = omega arith

five-bits : (n : ℕ) → n < 32 → n % 2 + 2 * (n / 2 % 2) + 4 * (n / 4 % 2) + 8 * (n / 8 % 2) + 16 * (n / 16 % 2) ≡ n
five-bits n h =
    let e₁ : n % 2 + 2 * (n / 2) ≡ n = omega arith in
    let e₂ : n / 2 % 2 + 2 * (n / 4) ≡ n / 2 = omega arith in
    let e₃ : n / 4 % 2 + 2 * (n / 8) ≡ n / 4 = omega arith in
    let e₄ : n / 8 % 2 + 2 * (n / 16) ≡ n / 8 = omega arith in
    let e₅ : n / 16 % 2 ≡ n / 16 = omega arith in
    horner (n % 2) (n / 2 % 2) (n / 4 % 2) (n / 8 % 2) e₅ e₄ e₃ e₂ e₁

module _ (r : Row) (f : RowFits r) where
  bits_back : bits_of (kind_is (r.bits % 2)) (witness_bit (item_kind_as (kind_is (r.bits % 2)) (r.bits / 2 % 2))) (eqb (r.bits / 4 % 2) 1) (owns r) (eqb (mark_bit r) 1) ≡ r.bits
  bits_back =
      rw (
        bit-witness (r.bits % 2) (r.bits / 2 % 2) (omega arith) (omega arith) (λ e. (f.plain e).0),
        bit-kind (r.bits % 2) (omega arith),
        bit_test (r.bits / 4 % 2) (omega arith),
        bit_test (own_bit r) (omega arith),
        bit_test (mark_bit r) (omega arith),
      )
      (five-bits r.bits f.bits)

  row-parts : (k : Key) (cs : List Candidate) (o : Option Owner) (i : Bool) (p : Option Package) (hs : List ℕ) (b : Bool)
      → k ≡ key_at r → b ≡ eqb (mark_bit r) 1 → owner_is r.conn o ≡ owns r → deadline_for r.conn o ≡ r.deadline
      → row_of (record { key = k; candidates = cs; owner = o; info = i; «package» = p; parents = hs; fallback = b }) (candidate_at r) ≡ r
  unfolding row_of candidate_at key_at
  row-parts k cs o i p hs b e m w d = rw (e, m, w, d, quad-number r.hash f.hash, bits_back)

  pub row_back : (q : Request) → q.key ≡ key_at r → q.fallback ≡ eqb (mark_bit r) 1 → owner_is r.conn q.owner ≡ owns r → deadline_for r.conn q.owner ≡ r.deadline
      → row_of q (candidate_at r) ≡ r
  row_back q e m w d = row-parts q.key q.candidates q.owner q.info q.«package» q.parents q.fallback e m w d

  -- ---- the owner that a row names

  unowned : owns r ≡ false → own_bit r ≡ 0
  unowned e = let n = eqb-false (own_bit r) 1 e in omega arith

  pub owner-is : (w : Option Owner) → owner_is r.conn w ≡ false → owner_is r.conn (owner_at r w) ≡ owns r
  owner-is w e = elim (test (owns r)) [ inl t ↦ rw t (eq-eqb r.conn r.conn refl) | inr t ↦ rw t e ]

  pub deadline_is : (w : Option Owner) → owner_is r.conn w ≡ false → deadline_for r.conn (owner_at r w) ≡ r.deadline
  deadline_is w e = elim (test (owns r)) [
    | inl t ↦ rw (t, eq-eqb r.conn r.conn refl)
    | inr t ↦ rw t (idle w e ∙ sym (f.idle (unowned t)))
  ]
    where
      idle : (w : Option Owner) → owner_is r.conn w ≡ false → deadline_for r.conn w ≡ 0
      idle none e = refl
      idle (some o) e = rw e

  -- ---- the request that it belongs to

  pub key-top : (key_at r).hash < top
  unfolding key_at
  key-top = number-top r.hash f.hash

  pub candidate-fits : Fits (key_at r) (candidate_at r)
  unfolding key_at candidate_at
  candidate-fits = record {
    item = go (kind_is (r.bits % 2)) (r.bits / 2 % 2);
    positive = f.positive;
    connection = f.conn;
    ready = f.ready;
    priority = f.prio;
  }
    where
      go : (k : Kind) (v : ℕ) → key_as (kind_of (item_kind_as k v)) (quad_number r.hash) ≡ some (record { kind = k; hash = quad_number r.hash })
      go Wtxid v = refl
      go Txid zero = refl
      go Txid (suc v) = refl

  pub mark-fits : Marked (key_at r).kind (eqb (mark_bit r) 1)
  unfolding key_at
  mark-fits = go (r.bits % 2) (eqb (mark_bit r) 1) refl (omega arith) (λ e. (f.plain e).1)
    where
      go : (n : ℕ) (b : Bool) → eqb (mark_bit r) 1 ≡ b → n ≤ 1 → (n ≡ 1 → mark_bit r ≡ 0) → Marked (kind_is n) b
      go n false e h p = tt
      go zero true e h p = refl
      go (suc n) true e h p = absurd (omega (arith, eqb-true (mark_bit r) 1 e, p (omega arith)))

  pub owner-fits : (w : Option Owner) (cs : List Candidate) → OwnerFits w cs → OwnerFits (owner_at r w) (candidate_at r ∷ cs)
  unfolding has candidate_at
  owner-fits w cs h = elim (test (owns r)) [
    | inl t ↦ rw t (rw (eq-eqb r.conn r.conn refl), f.deadline)
    | inr t ↦ rw t (kept w h)
  ]
    where
      kept : (w : Option Owner) → OwnerFits w cs → OwnerFits w (candidate_at r ∷ cs)
      kept none h = tt
      kept (some o) h = (or_true (eqb r.conn o.connection) (has o.connection cs) h.0, h.1)

-- ---- the other rows of a request

-- a row depends on its request's key, mark and owner
pub row_same : (q p : Request) (c : Candidate) → q.key ≡ p.key → q.fallback ≡ p.fallback → owner_is c.connection q.owner ≡ owner_is c.connection p.owner
    → deadline_for c.connection q.owner ≡ deadline_for c.connection p.owner → row_of q c ≡ row_of p c
unfolding row_of
row_same q p c e m w d = cc

-- an owner that is none of these candidates is as none to them
pub rows_same : (q p : Request) (cs : List Candidate) (o : Owner) → q.key ≡ p.key → q.fallback ≡ p.fallback → q.owner ≡ some o → p.owner ≡ none → has o.connection cs ≡ false
    → map (row_of q) cs ≡ map (row_of p) cs
unfolding has
rows_same q p [] o e m w v h = refl
rows_same q p (c ∷ cs) o e m w v h =
    let n : eqb o.connection c.connection ≡ false = eqb-sym o.connection c.connection ∙ or_left (eqb c.connection o.connection) (has o.connection cs) h in
    let a : owner_is c.connection q.owner ≡ owner_is c.connection p.owner = ap (owner_is c.connection) w ∙ n ∙ ap (owner_is c.connection) (sym v) in
    let z : deadline_for c.connection (some o) ≡ 0 = rw n in
    let b : deadline_for c.connection q.owner ≡ deadline_for c.connection p.owner = ap (deadline_for c.connection) w ∙ z ∙ ap (deadline_for c.connection) (sym v) in
    rw (row_same q p c e m a b, rows_same q p cs o e m w v (or_right (eqb c.connection o.connection) (has o.connection cs) h))

pub rows_like : (q p : Request) (cs : List Candidate) → q.key ≡ p.key → q.fallback ≡ p.fallback → q.owner ≡ p.owner → map (row_of q) cs ≡ map (row_of p) cs
rows_like q p [] e m w = refl
rows_like q p (c ∷ cs) e m w = rw (row_same q p c e m (ap (owner_is c.connection) w) (ap (deadline_for c.connection) w), rows_like q p cs e m w)
