-- A candidate that adopts what another brings, in the records and in bytes.
use Prim.Native.Nat.{ℕ, suc, min, ◌/◌, ◌%◌, ◌<◌}
use mathlib.Core.Path.{◌≡◌, refl, sym, ap, ◌∙◌}
use mathlib.Core.Bool.{Bool, true, false}
use mathlib.Core.List.{List, []}
use native.Mathlib.Omega.{arith}
use lib.Dec.{eqb}
use lib.ListN.{length, take, drop, get_or, set}
use lib.Seq.{set_split}
use Rattle.ident.specs.declared.Kind.{Kind}
use Rattle.ident.specs.Number.{Key, kind_is}
use Rattle.ident.proofs.KindNumbers.{kind_back}
use Rattle.regions.specs.declared.Row.{Row}
use Rattle.machine.specs.State.{Candidate, Request, State, on_table, with_candidates, adopting, owner_is}
use Rattle.machine.specs.Table.{at}
use Rattle.machine.specs.Announce.{adopt, adopted}
use Rattle.machine.specs.Sound.{Sound}
use Rattle.machine.proofs.Table.{lawful_at}
use Rattle.machine.proofs.Alone.{adopt-empty as adopt-some}
use Rattle.store.specs.Flat.{flat_of, witness_bit, bits_of, deadline_for, own_bit, row_of, rows_of, places_for, tally}
use Rattle.store.specs.Image.{Shows, Writes}
use Rattle.store.specs.Shown.{with_rows}
use Rattle.store.proofs.Bits.{bits-kind, bits-witness, bit_one, own_row, owns-row, mark-row}
use Rattle.store.proofs.PlacesAt.{places-unchanged}
use Rattle.store.proofs.RowChanges.{rows-adopted}
use Rattle.store.proofs.RowsAt.{Among, ahead, split_at, places_with}
use Rattle.store.proofs.Split.{places_none}
use Rattle.store.proofs.Tally.{tally_same}
use Rattle.requests.specs.Changes.{witness_as}
use Rattle.requests.proofs.Keeping.{writes_by}
use Rattle.requests.proofs.Cutting.{row_there, ahead_less}

-- ---- one row

row_as : (n v w p : ℕ) {a b : ℕ} (h : Row) → a ≡ b → ◌≡◌ {A = Row} (record { hash = h.hash; conn = n; ready = v; prio = w; deadline = p; bits = a })
    (record { hash = h.hash; conn = n; ready = v; prio = w; deadline = p; bits = b })
row_as n v w p h e = cc

module _ (q : Request) (c d : Candidate) where
  -- what the row of d says, where the item is v
  module _ {k : Kind} {o m : Bool} (ek : k ≡ kind_is ((row_of q d).bits % 2)) (eo : o ≡ eqb ((row_of q d).bits / 8 % 2) 1) (em : m ≡ eqb ((row_of q d).bits / 16 % 2) 1) where
    adopted-bits : {n : ℕ} (v : ℕ) → n ≡ bits_of k v true o m → n ≡ bits_of q.key.kind v true (owner_is d.connection q.owner) q.fallback
    unfolding row_of
    adopted-bits v e =
        let b = bits-kind q.key.kind d.item.kind d.preferred (owner_is d.connection q.owner) q.fallback in
        let x : k ≡ q.key.kind = ek ∙ ap kind_is b ∙ kind_back q.key.kind in
        let y : o ≡ owner_is d.connection q.owner = eo ∙ owns-row q d in
        let z : m ≡ q.fallback = em ∙ ap (λ (a : ℕ). eqb a 1) (mark-row q d) ∙ bit_one q.fallback in
        rw (e, x, y, z) refl

    -- by the item that it takes
    pub adopted-row : (same : Bool) {n : ℕ} → n ≡ bits_of k (witness_as same c.item.kind (row_of q d).bits) true o m
        → ◌≡◌ {A = Row} (record {
          hash = (row_of q d).hash;
          conn = (row_of q d).conn;
          ready = min (row_of q d).ready c.ready;
          prio = min (row_of q d).prio c.priority;
          deadline = (row_of q d).deadline;
          bits = n;
        }) (row_of q (adopting same c d))
    unfolding row_of
    adopted-row true e = row_as d.connection (min d.ready c.ready) (min d.priority c.priority) (deadline_for d.connection q.owner) (row_of q d) (adopted-bits (witness_bit c.item.kind) e)
    adopted-row false e =
        let v = bits-witness q.key.kind d.item.kind d.preferred (owner_is d.connection q.owner) q.fallback in
        row_as d.connection (min d.ready c.ready) (min d.priority c.priority) (deadline_for d.connection q.owner) (row_of q d) (adopted-bits ((row_of q d).bits / 2 % 2) e ∙ rw v refl)

-- ---- the request

tally-set_same : (rs : List Row) (i : ℕ) (d x : Row) → i < length rs → (get_or rs i d).conn ≡ x.conn → own_bit (get_or rs i d) ≡ own_bit x → tally (set rs i x) ≡ tally rs
tally-set_same rs i d x l e f = ap tally (set_split rs i x l) ∙ tally_same (take i rs) (get_or rs i d) x (drop (suc i) rs) e f ∙ ap tally (sym (split_at rs i d l))

module _ (st : State) (s : Sound st) (k : Key) (c : Candidate) (same : Bool) (f : Among c.connection (at k st.table).candidates) where
  pub adopt_made : {i : ℕ} {x : Row} {b : List ℕ} → i ≡ length (ahead k c.connection 0 st.table s.bounded.ordered f) → x ≡ row_of (at k st.table) (adopting same c f.one)
      → Shows b (with_rows (set (rows_of st.table) i x) (flat_of st)) → Writes b (on_table (adopted same k c st.table) st)
  adopt_made {i} {x} e q h =
      let t = st.table in
      let o = s.bounded.ordered in
      let r = at k t in
      let rows : rows_of (adopted same k c t) ≡ set (rows_of t) i x = rows-adopted same c k 0 t o f ∙ ap (λ (j : ℕ). set (rows_of t) j (row_of r (adopting same c f.one))) (sym e) ∙
      ap (set (rows_of t) i) (sym q) in
      let there = row_there k c.connection 0 t o f x e in
      let l : i < length (rows_of t) = omega (arith, ahead_less k c.connection 0 t o f) in
      let name : (get_or (rows_of t) i x).conn ≡ x.conn = ap (λ (a : Row). a.conn) there ∙ conn_kept r f.one ∙ ap (λ (a : Row). a.conn) (sym q) in
      let own : own_bit (get_or (rows_of t) i x) ≡ own_bit x = ap own_bit there ∙ own_row r f.one ∙ sym (own_row r (adopting same c f.one)) ∙ ap own_bit (sym q) in
      let gone : adopt same c r.candidates ≡ [] → places_for (with_candidates (adopt same c r.candidates) r) ≡ [] = λ z. places_with r (adopt same c r.candidates) ∙
      places_none r (lawful_at k t s.bounded.lawful) (adopt-some same c r.candidates z) in
      writes_by st (adopted same k c t) rows (ap tally rows ∙ tally-set_same (rows_of t) i x x l name own)
      (places-unchanged k 0 t o (λ p. with_candidates (adopt same c p.candidates) p) gone (places_with r (adopt same c r.candidates))) h
    where
      conn_kept : (r : Request) (d : Candidate) → (row_of r d).conn ≡ (row_of r (adopting same c d)).conn
      conn_kept r d = unfold row_of in refl
