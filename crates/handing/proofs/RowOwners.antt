-- A row tells whether its connection owns the request at its key.
use Prim.Native.Nat.{ℕ, zero, suc, ◌/◌, ◌%◌, ◌≤◌, ◌<◌}
use mathlib.Core.Path.{◌≡◌, refl, sym, ap, ◌∙◌}
use mathlib.Core.List.{List, [], ◌∷◌, ◌++◌, map}
use native.Mathlib.Omega.{arith}
use lib.Dec.{eqb}
use lib.ListN.{length, get_or}
use borrow.Author.Tests.{eq-eqb, ne_eqb}
use Rattle.ident.specs.declared.Key.{Key as KeyGiven}
use Rattle.ident.specs.Number.{Key, place}
use Rattle.ident.specs.Words.{key_num}
use Rattle.regions.specs.declared.Row.{Row}
use Rattle.regions.specs.declared.Key.{Key as RowKey}
use Rattle.regions.specs.Regions.{each}
use Rattle.regions.specs.Rows.{key_number, key_of as row_key_of}
use Rattle.machine.specs.State.{Candidate, Request, Table, State, owner_is}
use Rattle.machine.specs.Table.{at}
use Rattle.machine.specs.Sound.{Ordered, Sound}
use Rattle.machine.specs.Typed.{Each}
use Rattle.store.specs.Flat.{row_of, rows_for, rows_of}
use Rattle.store.specs.FlatSound.{owns}
use Rattle.store.specs.Gather.{key_at}
use Rattle.store.specs.Shown.{row_conns}
use Rattle.store.proofs.Bits.{key_row, conn-row, owns-row}
use Rattle.store.proofs.Keys.{row_number}
use Rattle.store.proofs.Missing.{each_at}
use Rattle.store.proofs.RowsFit.{each_by}
use Rattle.requests.specs.Changes.{KeyWords}

-- of a row of a table whose keys start at lo
record Says (t : Table) (lo : ℕ) (r : Row) : Type 0 where
  least : lo ≤ place (key_at r)
  owner : (k : Key) → place k ≡ place (key_at r) → owns r ≡ owner_is r.conn (at k t).owner

says_both : (P : Row → Type 0) (a b : List Row) → Each P a → Each P b → Each P (a ++ b)
says_both P [] b p q = q
says_both P (x ∷ a) b p q = (p.0, says_both P a b p.1 q)

module _ (q : Request) (t : Table) where
  at_first : (k : Key) → place k ≡ place q.key → at k (q ∷ t) ≡ q
  unfolding at
  at_first k e = rw (eq-eqb (place k) (place q.key) e)

  at_later : (k : Key) → place q.key < place k → at k (q ∷ t) ≡ at k t
  unfolding at
  at_later k l = rw (ne_eqb (place k) (place q.key) (λ e. omega arith))

  first_says : (lo : ℕ) → lo ≤ place q.key → (c : Candidate) → Says (q ∷ t) lo (row_of q c)
  first_says lo l c = record {
    least = let e = ap place (key_row q c) in omega arith;
    owner = λ k e.
        owns-row q c
        ∙ ap (λ (x : Request). owner_is c.connection x.owner) (sym (at_first k (e ∙ ap place (key_row q c))))
        ∙ ap (λ (n : ℕ). owner_is n (at k (q ∷ t)).owner) (sym (conn-row q c));
  }

  firsts : (lo : ℕ) → lo ≤ place q.key → (cs : List Candidate) → Each (Says (q ∷ t) lo) (map (row_of q) cs)
  firsts lo l [] = tt
  firsts lo l (c ∷ cs) = (first_says lo l c, firsts lo l cs)

  later-says : (lo : ℕ) → lo ≤ place q.key → (r : Row) → Says t (suc (place q.key)) r → Says (q ∷ t) lo r
  later-says lo l r x = record {
    least = omega (arith, x.least);
    owner = λ k e. x.owner k e ∙ ap (λ (y : Request). owner_is r.conn y.owner) (sym (at_later k (omega (arith, x.least))));
  }

rows-say : (lo : ℕ) (t : Table) → Ordered lo t → Each (Says t lo) (rows_of t)
unfolding each rows_for
rows-say lo [] o = tt
rows-say lo (q ∷ t) o =
    says_both (Says (q ∷ t) lo) (map (row_of q) q.candidates) (rows_of t) (firsts q t lo o.0 q.candidates)
    (each_by (rows_of t) (later-says q t lo o.0) (rows-say (suc (place q.key)) t o.2))

conn-at : (rs : List Row) (i : ℕ) (d : Row) → i < length rs → get_or (row_conns rs) i 0 ≡ (get_or rs i d).conn
conn-at [] i d l = absurd (omega arith)
conn-at (r ∷ rs) zero d l = refl
conn-at (r ∷ rs) (suc i) d l = conn-at rs i d (omega arith)

-- the row of n under the key k
pub row-says : (st : State) → Sound st → (n : ℕ) (k : KeyGiven) {key : RowKey} → KeyWords k key → {i : ℕ} {r : Row} → i < length (rows_of st.table) → r ≡ get_or (rows_of st.table) i r
    → get_or (row_conns (rows_of st.table)) i 0 ≡ n → key_number (row_key_of r) ≡ key_number key
    → eqb (r.bits / 8 % 2) 1 ≡ owner_is n (at (key_num k) st.table).owner
row-says st s n k {key} w {i} {r} l e c same =
    let t = st.table in
    let x = each_at (Says t 0) (rows_of t) i r (rows-say 0 t s.bounded.ordered) l in
    let q = get_or (rows_of t) i r in
    let here : place (key_num k) ≡ place (key_at q) = sym w.number ∙ sym same ∙ row_number r ∙ ap (λ (y : Row). place (key_at y)) e in
    ap owns e ∙ x.owner (key_num k) here ∙ ap (λ (m : ℕ). owner_is m (at (key_num k) t).owner) (sym (conn-at (rows_of t) i r l) ∙ c)
