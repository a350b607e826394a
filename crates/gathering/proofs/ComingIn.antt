-- Candidates that come in together, in the flat state: rows merged, the tally raised, places as they were.
use Prim.Native.Nat.{ℕ, suc, ◌+◌, ◌<◌}
use mathlib.Core.Path.{◌≡◌, refl, sym, ap, subst, ◌∙◌}
use mathlib.Core.List.{List, [], ◌∷◌, ◌++◌, append_assoc}
use native.Mathlib.Omega.{arith}
use lib.ListN.{length, take, get_or}
use lib.Seq.{take-suc}
use Rattle.regions.specs.declared.Row.{Row}
use Rattle.regions.specs.declared.Conn.{Conn}
use Rattle.machine.specs.State.{Entry, State, Table, on_table}
use Rattle.machine.specs.Table.{at, one}
use Rattle.machine.specs.Announce.{push}
use Rattle.machine.specs.Sound.{Ordered, Sound}
use Rattle.machine.specs.Typed.{Each}
use Rattle.machine.proofs.Announce.{each_append, each_map}
use Rattle.machine.proofs.Table.{ordered-change}
use Rattle.store.specs.Flat.{flat_of, row_of, rows_of, places_of, own_bit, bump, tally}
use Rattle.store.specs.Counting.{raise}
use Rattle.store.specs.Image.{Shows, Writes}
use Rattle.store.specs.Shown.{with_rows, with_conns}
use Rattle.store.proofs.Bits.{own_row, conn-row}
use Rattle.store.proofs.Missing.{each_at}
use Rattle.store.proofs.RowsAt.{push_places}
use Rattle.store.proofs.Tally.{tally-row}
use Rattle.requests.proofs.Keeping.{writes_by}
use Rattle.announcing.proofs.GoneBy.{each_front}
use Rattle.gathering.specs.Waits.{pushes, Small, Of, Idle}
use Rattle.gathering.specs.Coming.{Bare}
use Rattle.gathering.specs.Merges.{number_of, upto, beyond, merged, placed, gathered}
use Rattle.gathering.proofs.Merging.{merged-cons, merged_none, length_merged, parted, placed_is, rows-merged}

-- ---- the rows that wait

module _ (P : Row → Type 0) where
  each-placed : (r : Row) (ys : List Row) → P r → Each P ys → Each P (placed r ys)
  each-placed r ys p q =
      let f = each_front P (upto (number_of r) ys) (beyond (number_of r) ys) (rw (parted (number_of r) ys) q) in
      rw (placed_is r ys) (each_append P (upto (number_of r) ys) (r ∷ beyond (number_of r) ys) f.0 (p, f.1))

  each-gathered : (t : Table) (es : List Entry) (ys : List Row) → Each (λ (a : Entry). P (row_of (at a.key t) a.candidate)) es → Each P ys → Each P (gathered t es ys)
  unfolding gathered
  each-gathered t [] ys a p = p
  each-gathered t (e ∷ es) ys a p = each-gathered t es (placed (row_of (at e.key t) e.candidate) ys) a.1 (each-placed (row_of (at e.key t) e.candidate) ys a.0 p)

-- none of them owns its request
pub bare-gathered : (t : Table) (es : List Entry) → Idle t es → Each Bare (gathered t es [])
bare-gathered t es i = each-gathered Bare t es [] (each_map _ (λ (a : Entry). Bare (row_of (at a.key t) a.candidate)) es (λ a o. own_row (at a.key t) a.candidate ∙ ap one o) i) tt

-- all are of one connection
mine-gathered : (n : ℕ) (t : Table) (es : List Entry) → Each (Of n) es → Each (λ (r : Row). r.conn ≡ n) (gathered t es [])
mine-gathered n t es a =
    each-gathered (λ (r : Row). r.conn ≡ n) t es []
    (each_map (Of n) (λ (e : Entry). (row_of (at e.key t) e.candidate).conn ≡ n) es (λ e o. conn-row (at e.key t) e.candidate ∙ o.mine) a) tt

pub length-gathered : (t : Table) (es : List Entry) (ys : List Row) → length (gathered t es ys) ≡ length es + length ys
unfolding gathered
length-gathered t [] ys = omega arith
length-gathered t (e ∷ es) ys =
    let r = row_of (at e.key t) e.candidate in
    omega (arith, length-gathered t es (placed r ys), length_merged ys (r ∷ []))

-- ---- the tally

-- one row more is merged in
tally-more : (a b zs : List Row) (y : Row) → tally (a ++ merged b (zs ++ (y ∷ []))) ≡ bump y.conn (own_bit y) (tally (a ++ merged b zs))
tally-more a b [] y =
    let u = upto (number_of y) b in
    let v = beyond (number_of y) b in
    ap (λ (z : List Row). tally (a ++ z)) (placed_is y b) ∙ ap tally (sym (append_assoc a u (y ∷ v))) ∙ tally-row (a ++ u) y v
    ∙ ap (λ (z : List Row). bump y.conn (own_bit y) (tally z)) (append_assoc a u v ∙ ap (λ (z : List Row). a ++ z) (parted (number_of y) b ∙ sym (merged_none b)))
tally-more a b (z ∷ zs) y =
    let u = upto (number_of z) b in
    let v = beyond (number_of z) b in
    let along : (ws : List Row) → a ++ merged b (z ∷ ws) ≡ (a ++ (u ++ (z ∷ []))) ++ merged v ws = λ ws.
    ap (λ (q : List Row). a ++ q) (merged-cons b z ws ∙ sym (append_assoc u (z ∷ []) (merged v ws))) ∙ sym (append_assoc a (u ++ (z ∷ [])) (merged v ws)) in
    ap tally (along (zs ++ (y ∷ []))) ∙ tally-more (a ++ (u ++ (z ∷ []))) v zs y ∙ ap (λ (q : List Row). bump y.conn (own_bit y) (tally q)) (sym (along zs))

pub tally_next : (xs ys : List Row) (j : ℕ) (d : Row) → Each Bare ys → j < length ys
    → tally (merged xs (take (suc j) ys)) ≡ bump (get_or ys j d).conn 0 (tally (merged xs (take j ys)))
tally_next xs ys j d p l =
    ap (λ (z : List Row). tally (merged xs z)) (take-suc ys j d l) ∙ tally-more [] xs (take j ys) (get_or ys j d)
    ∙ ap (λ (o : ℕ). bump (get_or ys j d).conn o (tally (merged xs (take j ys)))) (each_at Bare ys j d p l)

-- those of one connection
module _ (n : ℕ) where
  tally-behind : (a b ys : List Row) → Each Bare ys → Each (λ (r : Row). r.conn ≡ n) ys → tally (a ++ merged b ys) ≡ raise n (length ys) (tally (a ++ b))
  unfolding raise
  tally-behind a b [] p q = ap (λ (z : List Row). tally (a ++ z)) (merged_none b)
  tally-behind a b (y ∷ ys) p q =
      let u = upto (number_of y) b in
      let v = beyond (number_of y) b in
      ap (λ (z : List Row). tally (a ++ z)) (merged-cons b y ys)
      ∙ ap tally (sym (append_assoc a u (y ∷ merged v ys)))
      ∙ tally-row (a ++ u) y (merged v ys)
      ∙ rw (q.0, p.0, tally-behind (a ++ u) v ys p.1 q.1, append_assoc a u v, parted (number_of y) b)

  tally-merged : (xs ys : List Row) → Each Bare ys → Each (λ (r : Row). r.conn ≡ n) ys → tally (merged xs ys) ≡ raise n (length ys) (tally xs)
  tally-merged xs ys p q = tally-behind [] xs ys p q

-- ---- the places

places-pushes : (es : List Entry) (t : Table) → Each Small es → Ordered 0 t → places_of (pushes es t) ≡ places_of t
unfolding pushes
places-pushes [] t a o = refl
places-pushes (e ∷ es) t a o = places-pushes es (push e.key e.candidate t) a.1 (ordered-change e.key _ 0 t (λ r. refl) (omega arith) a.0.small o) ∙
    push_places e.key 0 t o e.candidate

-- ---- the state

module _ (st : State) (s : Sound st) (es : List Entry) (a : Each Small es) where
  abbrev t : Table
  t = st.table

  abbrev theirs : List Row
  theirs = gathered t es []

  -- bytes with the rows merged, and all of them counted, write the table with the candidates
  pub all_in : {b : List ℕ} → Shows b (with_conns (tally (merged (rows_of t) theirs)) (with_rows (merged (rows_of t) theirs) (flat_of st))) → Writes b (on_table (pushes es t) st)
  all_in h =
      let o = s.bounded.ordered in
      let rows = rows-merged es t a o in
      writes_by st (pushes es t) rows (ap tally rows) (places-pushes es t a o) h

  -- where all are of one connection its entry is raised
  pub came_in : (n : ℕ) → Each (Of n) es → Idle t es → {b : List ℕ}
      → Shows b (with_conns (raise n (length es) (tally (rows_of t))) (with_rows (merged (rows_of t) theirs) (flat_of st))) → Writes b (on_table (pushes es t) st)
  came_in n q i {b} h =
      let l : length theirs ≡ length es = omega (arith, length-gathered t es []) in
      let e : tally (merged (rows_of t) theirs) ≡ raise n (length es) (tally (rows_of t)) =
      tally-merged n (rows_of t) theirs (bare-gathered t es i) (mine-gathered n t es q) ∙ ap (λ (d : ℕ). raise n d (tally (rows_of t))) l in
      all_in (subst (λ (cs : List Conn). Shows b (with_conns cs (with_rows (merged (rows_of t) theirs) (flat_of st)))) (sym e) h)
