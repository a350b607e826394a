-- Rows that pass the tests are those of the requests that they show.
use Prim.Native.Nat.{ℕ, suc, ◌≤◌}
use mathlib.Core.Path.{◌≡◌, refl, sym, ap, ◌∙◌}
use mathlib.Core.Logic.{inl, inr}
use mathlib.Core.Bool.{Bool, true, false, ◌&&◌}
use mathlib.Core.List.{List, [], ◌∷◌, ◌++◌, map}
use mathlib.Core.Option.{Option, none, some}
use native.Mathlib.Omega.{arith}
use lib.Dec.{eqb}
use lib.ListN.{length}
use borrow.Author.Tests.{eqb-true, eqb-false, eq-eqb, ne_eqb}
use Rattle.ident.specs.declared.Kind.{Kind}
use Rattle.ident.specs.Number.{Key, place}
use Rattle.ident.proofs.Places.{place_same as place-inj}
use Rattle.regions.specs.declared.Row.{Row}
use Rattle.regions.specs.Regions.{each}
use Rattle.machine.specs.State.{Candidate, Owner, Package, Request, Table, owner_is}
use Rattle.machine.specs.Table.{count_in, total, owner_in, has, by_under, under}
use Rattle.machine.specs.Sound.{OwnerFits, Packed, Lawful, Filled, Ordered, All}
use Rattle.machine.specs.Typed.{Each}
use Rattle.machine.proofs.Tests.{test, never}
use Rattle.store.specs.Flat.{row_of, rows_for, rows_of}
use Rattle.store.specs.Gather.{key_at, single, joined, join, gather}
use Rattle.store.specs.FlatSound.{count_rows, hash_at, owns, mark_bit, RowFits, Ascending, MarkedAs, SameMarks}
use Rattle.store.proofs.Bits.{bit_one, key_row, mark-row}
use Rattle.store.proofs.Counts.{by_under_rows, own_under_rows, in_same, in_hasnt, DistinctIn, distinct_in}
use Rattle.store.proofs.RowBack.{row_back, owner-is, deadline_is, key-top, candidate-fits, mark-fits, owner-fits, rows_same, rows_like}

-- the tests that rows have to pass, with keys from lo on
pub record Gatherable (lo : ℕ) (rs : List Row) : Type 0 where
  pub fit : Each RowFits rs
  pub ascending : Ascending lo rs
  pub marks : SameMarks rs
  pub once : (n h : ℕ) → count_rows (λ r. eqb (hash_at r) h && eqb r.conn n) rs ≤ 1
  pub single : (h : ℕ) → count_rows (λ r. eqb (hash_at r) h && owns r) rs ≤ 1

-- neither flag nor package
abbrev pub Unplaced : Request → Type 0
Unplaced r = (r.info ≡ false) × (r.«package» ≡ none)

-- the requests that such rows show
pub record Gathered (lo : ℕ) (rs : List Row) (t : Table) : Type 0 where
  pub rows : rows_of t ≡ rs
  pub ordered : Ordered lo t
  pub filled : All Filled t
  pub lawful : All Lawful t
  pub unplaced : All Unplaced t

marks_tail : (r : Row) (rs : List Row) → MarkedAs r rs → SameMarks rs
marks_tail r [] m = tt
marks_tail r (q ∷ rs) m = m.1

tail : (lo : ℕ) (r : Row) (rs : List Row) → Gatherable lo (r ∷ rs) → Gatherable (place (key_at r)) rs
unfolding count_rows
tail lo r rs g = record {
  fit = g.fit.1;
  ascending = g.ascending.1;
  marks = marks_tail r rs g.marks;
  once = λ n h. omega (arith, g.once n h);
  single = λ h. omega (arith, g.single h);
}

packed_unplaced : (k : Kind) (o w : Option Owner) (i : Bool) (p : Option Package) (hs : List ℕ) → i ≡ false → p ≡ none → Packed k o i p hs → Packed k w i p hs
packed_unplaced k o w true p hs e f h = never (sym e)
packed_unplaced k o w false (some p) hs e f h = let z : ◌≡◌ {A = ℕ} 0 1 = cc in absurd (omega arith)
packed_unplaced k o w false none hs e f h = h

-- ---- a row of a new key

single-lawful : (r : Row) → RowFits r → Lawful (single r)
single-lawful r f = record {
  candidates = (candidate-fits r f, tt);
  owner = owner-fits r f none [] tt;
  packed = refl;
  parents = record { hashes = tt; distinct = tt; few = omega arith };
  mark = mark-fits r f;
}

first : (lo : ℕ) (r : Row) (rs : List Row) (t : Table) → Gatherable lo (r ∷ rs) → Gathered (suc (place (key_at r))) rs t → Gathered lo (r ∷ rs) (single r ∷ t)
unfolding each rows_for
first lo r rs t g d = record {
  rows = rw (row_back r g.fit.0 (single r) refl refl (owner-is r g.fit.0 none refl) (deadline_is r g.fit.0 none refl), d.rows);
  ordered = (g.ascending.0, key-top r g.fit.0, d.ordered);
  filled = (omega arith, d.filled);
  lawful = (single-lawful r g.fit.0, d.lawful);
  unplaced = ((refl, refl), d.unplaced);
}

-- ---- a row of the first request's key

module _ (lo : ℕ) (r : Row) (rs : List Row) (q : Request) (t : Table) (g : Gatherable lo (r ∷ rs)) (d : Gathered (place (key_at r)) rs (q ∷ t)) (e : place (key_at r) ≡ place q.key) where
  same_key_lem : q.key ≡ key_at r
  same_key_lem = place-inj q.key (key_at r) d.ordered.1 (key-top r g.fit.0) (sym e)

  same-hash : q.key.hash ≡ hash_at r
  unfolding key_at
  same-hash = ap (λ (k : Key). k.hash) same_key_lem

  -- no other row of its connection and hash
  fresh : has r.conn q.candidates ≡ false
  unfolding count_rows total
  fresh =
      let n : ℕ = r.conn in
      let h : ℕ = hash_at r in
      let o = rw (eq-eqb h h refl, eq-eqb n n refl) at (g.once n h) in
      let c = by_under_rows (q ∷ t) n h in
      let s : count_in (by_under n h q.key) q.candidates ≡ count_in (λ m. eqb m n) q.candidates = in_same _ _ q.candidates (λ m. rw (eq-eqb q.key.hash h same-hash)) in
      in_hasnt n q.candidates (omega (arith, rw d.rows at c))

  distinct : All DistinctIn (q ∷ t)
  distinct = distinct_in (q ∷ t) (λ n h. omega (arith, by_under_rows (q ∷ t) n h, rw (sym d.rows) at ((tail lo r rs g).once n h)))

  -- no other owner at its hash
  alone : owns r ≡ true → q.owner ≡ none
  unfolding count_rows total
  alone w =
      let h : ℕ = hash_at r in
      let o = rw (eq-eqb h h refl, w) at (g.single h) in
      let c = rw d.rows at (own_under_rows (q ∷ t) d.lawful distinct h) in
      go q.owner (omega arith)
    where
      go : (o : Option Owner) → owner_in (under (hash_at r) q.key) o ≡ 0 → o ≡ none
      go none z = refl
      go (some o) z = absurd (omega (arith, rw (eq-eqb q.key.hash (hash_at r) same-hash) at z))

  not_owner : owner_is r.conn q.owner ≡ false
  not_owner = go q.owner d.lawful.0.owner
    where
      go : (o : Option Owner) → OwnerFits o q.candidates → owner_is r.conn o ≡ false
      go none f = refl
      go (some o) f = ne_eqb o.connection r.conn (λ z. never (sym fresh ∙ ap (λ (n : ℕ). has n q.candidates) (sym z) ∙ f.0))

  same_mark : q.fallback ≡ eqb (mark_bit r) 1
  unfolding each rows_for
  same_mark = go q.candidates d.filled.0 (rw (sym d.rows) at g.marks)
    where
      go : (cs : List Candidate) → 1 ≤ length cs → MarkedAs r (map (row_of q) cs ++ rows_of t) → q.fallback ≡ eqb (mark_bit r) 1
      go [] l m = absurd (omega arith)
      go (c ∷ cs) l m = sym (ap (λ (n : ℕ). eqb n 1) (m.0 (e ∙ ap place (sym (key_row q c))) ∙ mark-row q c) ∙ bit_one q.fallback)

  rows_kept : map (row_of (joined r q)) q.candidates ≡ map (row_of q) q.candidates
  rows_kept = elim (test (owns r)) [
    | inl w ↦ rows_same (joined r q) q q.candidates (record { connection = r.conn; deadline = r.deadline }) refl refl (rw w) (alone w) fresh
    | inr w ↦ rows_like (joined r q) q q.candidates refl refl (rw w)
  ]

  joined-lawful : Lawful (joined r q)
  joined-lawful = record {
    candidates = (rw same_key_lem (candidate-fits r g.fit.0), d.lawful.0.candidates);
    owner = owner-fits r g.fit.0 q.owner q.candidates d.lawful.0.owner;
    packed = packed_unplaced q.key.kind q.owner _ q.info q.«package» q.parents d.unplaced.0.0 d.unplaced.0.1 d.lawful.0.packed;
    parents = d.lawful.0.parents;
    mark = d.lawful.0.mark;
  }

  another : Gathered lo (r ∷ rs) (joined r q ∷ t)
  unfolding each rows_for
  another = record {
    rows = rw (row_back r g.fit.0 (joined r q) same_key_lem same_mark (owner-is r g.fit.0 q.owner not_owner) (deadline_is r g.fit.0 q.owner not_owner), rows_kept)
        (ap (λ (l : List Row). r ∷ l) d.rows);
    ordered = (omega (arith, g.ascending.0), d.ordered.1, d.ordered.2);
    filled = (omega arith, d.filled.1);
    lawful = (joined-lawful, d.lawful.1);
    unplaced = (d.unplaced.0, d.unplaced.1);
  }

-- ---- all of them

joins : (lo : ℕ) (r : Row) (rs : List Row) (t : Table) → Gatherable lo (r ∷ rs) → Gathered (place (key_at r)) rs t → Gathered lo (r ∷ rs) (join r t)
unfolding join
joins lo r rs [] g d = first lo r rs [] g (record { rows = d.rows; ordered = tt; filled = tt; lawful = tt; unplaced = tt })
joins lo r rs (q ∷ t) g d =
    elim (test (eqb (place (key_at r)) (place q.key))) [
      | inl e ↦ rw e (another lo r rs q t g d (eqb-true _ _ e))
      | inr e ↦ let n = eqb-false (place (key_at r)) (place q.key) e in
          rw e (first lo r rs (q ∷ t) g
          (record { rows = d.rows; ordered = (omega (arith, d.ordered.0), d.ordered.1, d.ordered.2); filled = d.filled; lawful = d.lawful; unplaced = d.unplaced }))
    ]

pub gathered : (lo : ℕ) (rs : List Row) → Gatherable lo rs → Gathered lo rs (gather rs)
unfolding gather each
gathered lo [] g = record { rows = refl; ordered = tt; filled = tt; lawful = tt; unplaced = tt }
gathered lo (r ∷ rs) g = joins lo r rs (gather rs) g (gathered (place (key_at r)) rs (tail lo r rs g))
