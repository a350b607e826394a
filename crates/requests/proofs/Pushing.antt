-- One candidate more, in the records and in bytes.
use Prim.Native.Nat.{ℕ, ◌%◌, ◌≤◌, ◌<◌}
use mathlib.Core.Path.{◌≡◌, refl, sym, ap, ◌∙◌}
use mathlib.Core.Bool.{Bool, false}
use mathlib.Core.Logic.{inl, inr}
use mathlib.Core.List.{List, [], ◌∷◌, ◌++◌, map, append-nil}
use native.Mathlib.Omega.{arith}
use lib.ListN.{length, length-append}
use lib.Seq.{get_or_at}
use lib.Dec.{eqb}
use borrow.Author.Tests.{lt-ltb, le-ltb, eqb-true, eqb-false}
use Rattle.ident.specs.declared.Kind.{Kind}
use Rattle.ident.specs.Number.{top, Key}
use Rattle.regions.specs.declared.Quad.{Quad}
use Rattle.regions.specs.declared.Row.{Row}
use Rattle.regions.specs.Rows.{quad_of}
use Rattle.regions.specs.Regions.{insert_at}
use Rattle.machine.specs.State.{Candidate, Request, Table, State, on_table, owner_is}
use Rattle.machine.specs.Table.{at, one}
use Rattle.machine.specs.Announce.{push}
use Rattle.machine.specs.Sound.{Sound, Filled, All}
use Rattle.machine.proofs.Table.{all_at, at_key}
use Rattle.machine.proofs.Tests.{test}
use Rattle.store.specs.Flat.{flat_of, witness_bit, bits_of, own_bit, row_of, rows_of, rows_for, bump, tally}
use Rattle.store.specs.Image.{Shows, Writes}
use Rattle.store.specs.Shown.{conns_in, limit_in, Shown, with_rows, with_conns}
use Rattle.store.proofs.Bits.{own_row, mark-row, conn-row, bit_one}
use Rattle.store.proofs.Entries.{tally-length}
use Rattle.store.proofs.Frame.{sizes, shown, length-insert}
use Rattle.store.proofs.RowsAt.{tally-insert, push-rows, push_places}
use Rattle.store.proofs.Split.{rows_below, rows_above, rows_at}
use Rattle.store.proofs.RowChanges.{idle}
use Rattle.requests.specs.Changes.{mark_in}
use Rattle.requests.proofs.Keeping.{sized_of, light_of, writes_by}

-- ---- the row of a candidate that does not own its request

row_as : {h h' : Quad} {d d' b b' : ℕ} (n r p : ℕ) → h ≡ h' → d ≡ d' → b ≡ b' → ◌≡◌ {A = Row} (record { hash = h; conn = n; ready = r; prio = p; deadline = d; bits = b })
    (record { hash = h'; conn = n; ready = r; prio = p; deadline = d'; bits = b' })
row_as n r p e f g = cc

pub row_new : (q : Request) (c : Candidate) {h : Quad} {k : Kind} {m : Bool} {n : ℕ} → h ≡ quad_of q.key.hash → k ≡ q.key.kind → owner_is c.connection q.owner ≡ false → m ≡ q.fallback
    → n ≡ bits_of k (witness_bit c.item.kind) c.preferred false m
    → ◌≡◌ {A = Row} (record { hash = h; conn = c.connection; ready = c.ready; prio = c.priority; deadline = 0; bits = n }) (row_of q c)
unfolding row_of
row_new q c eh ek o em e = row_as c.connection c.ready c.priority eh (sym (idle c.connection q.owner o)) (rw (e, ek, o, em) refl)

-- a key's request is under the key
module _ (st : State) (s : Sound st) (k : Key) (small : k.hash < top) where
  pub its-hash : quad_of k.hash ≡ quad_of (at k st.table).key.hash
  its-hash = ap (λ (j : Key). quad_of j.hash) (sym (at_key k 0 st.table small s.bounded.ordered))

  pub its-kind : k.kind ≡ (at k st.table).key.kind
  its-kind = ap (λ (j : Key). j.kind) (sym (at_key k 0 st.table small s.bounded.ordered))

-- ---- the mark of a request is that of its first row

abbrev Unmarked : Request → Type 0
Unmarked r = r.candidates ≡ [] → r.fallback ≡ false

implied : (t : Table) → All Filled t → All Unmarked t
implied [] a = tt
implied (r ∷ t) a = ((λ e. absurd (omega (arith, a.0, ap length e))), implied t a.1)

-- a bit, as a test and back
pub one_bit : (n : ℕ) → one (eqb (n % 2) 1) ≡ n % 2
one_bit n = elim (test (eqb (n % 2) 1)) [ inl e ↦ rw e (sym (eqb-true (n % 2) 1 e)) | inr e ↦ let z = eqb-false (n % 2) 1 e in rw e (omega arith) ]

module _ (st : State) (s : Sound st) (k : Key) where
  abbrev t : Table
  t = st.table

  unfilled : (at k t).candidates ≡ [] → (at k t).fallback ≡ false
  unfilled = all_at Unmarked k t (λ _. refl) (implied t s.bounded.filled)

  pub mark_of : (d : Row) {from to : ℕ} → from ≡ length (rows_below k t) → to ≡ length (rows_below k t ++ rows_for (at k t)) → mark_in from to d (rows_of t) ≡ one (at k t).fallback
  unfolding rows_for
  mark_of d {from} {to} e f = go (at k t).candidates refl
    where
      go : (cs : List Candidate) → (at k t).candidates ≡ cs → mark_in from to d (rows_of t) ≡ one (at k t).fallback
      go [] z =
          let l : to ≡ from = f ∙ ap (λ (l : List Candidate). length (rows_below k t ++ map (row_of (at k t)) l)) z ∙ simp append-nil (sym e) in
          rw (le-ltb from to (omega arith), unfilled z)
      go (c ∷ cs) z =
          let l : from < to = rw (f, ap (λ (l : List Candidate). length (rows_below k t ++ map (row_of (at k t)) l)) z, length-append) (omega arith) in
          let g : rows_of t ≡ rows_below k t ++ (row_of (at k t) c ∷ (map (row_of (at k t)) cs ++ rows_above k t)) =
          rows_at k 0 t s.bounded.ordered ∙ ap (λ (l : List Candidate). rows_below k t ++ (map (row_of (at k t)) l ++ rows_above k t)) z in
          rw (lt-ltb from to l, g, e, get_or_at (rows_below k t) (row_of (at k t) c) (map (row_of (at k t)) cs ++ rows_above k t) d (length (rows_below k t)) refl) (mark-row (at k t) c)

  pub its-mark : (d : Row) {from to : ℕ} {m : Bool} → from ≡ length (rows_below k t) → to ≡ length (rows_below k t ++ rows_for (at k t)) → one m ≡ mark_in from to d (rows_of t) → m ≡ (at k t).fallback
  its-mark d {m = m} e f z = sym (bit_one m) ∙ ap (λ (n : ℕ). eqb n 1) (z ∙ mark_of d e f) ∙ bit_one (at k t).fallback

-- ---- the row is in, then it is counted

module _ (st : State) (s : Sound st) {i : ℕ} (r : Row) {b₁ : List ℕ} (h : Shows b₁ (with_rows (insert_at i r (rows_of st.table)) (flat_of st))) (l : i ≤ length (rows_of st.table))
    (m : length (rows_of st.table) < st.limit) where
  pub added-shown : Shown b₁ × (conns_in b₁ < limit_in b₁)
  added-shown =
      let z = sized_of st s in
      let n = length-insert (rows_of st.table) i r l in
      let y = sizes h in (
        shown h (record { limit = z.limit; places = z.places; rows_few = omega arith; conns_few = z.conns_few; places_few = z.places_few }) (light_of st s),
        omega (arith, tally-length (rows_of st.table)),
      )

module _ (st : State) (s : Sound st) (k : Key) (c : Candidate) {i : ℕ} {r : Row} {b : List ℕ} (e : i ≡ length (rows_below k st.table ++ rows_for (at k st.table)))
    (q : r ≡ row_of (at k st.table) c) (o : owner_is c.connection (at k st.table).owner ≡ false) where
  pub pushed : {x : ℕ} → x ≡ c.connection → Shows b (with_conns (bump x 0 (tally (rows_of st.table))) (with_rows (insert_at i r (rows_of st.table)) (flat_of st)))
      → Writes b (on_table (push k c st.table) st)
  pushed {x} y h =
      let rows : rows_of (push k c st.table) ≡ insert_at i r (rows_of st.table) = push-rows k 0 st.table s.bounded.ordered c ∙ rw (e, q) in
      let own : own_bit r ≡ 0 = ap own_bit q ∙ own_row (at k st.table) c ∙ ap one o in
      let name : r.conn ≡ x = ap (λ (a : Row). a.conn) q ∙ conn-row (at k st.table) c ∙ sym y in
      let conns : tally (rows_of (push k c st.table)) ≡ bump x 0 (tally (rows_of st.table)) = ap tally rows ∙ tally-insert (rows_of st.table) i r ∙ rw (own, name) in
      writes_by st (push k c st.table) rows conns (push_places k 0 st.table s.bounded.ordered c) h
