-- One candidate less, in the records and in bytes.
use Prim.Native.Nat.{ℕ, zero, suc, ◌+◌, ◌-◌, ◌<◌}
use mathlib.Core.Path.{◌≡◌, refl, sym, ap, subst, ◌∙◌}
use mathlib.Core.Logic.{inl, inr}
use mathlib.Core.Bool.{Bool, true, false}
use mathlib.Core.List.{List, [], ◌∷◌, ◌++◌, map, append_assoc}
use mathlib.Core.Option.{Option, none, some}
use native.Mathlib.Omega.{arith}
use lib.Dec.{eqb}
use lib.ListN.{length, get_or, length-append, length-map, get_or-append}
use lib.Seq.{get_or_at, get_or-append-add}
use borrow.Author.Tests.{eqb-false}
use Rattle.ident.specs.Number.{Key}
use Rattle.regions.specs.declared.Row.{Row}
use Rattle.regions.specs.Order.{First}
use Rattle.regions.specs.Regions.{remove_at}
use Rattle.machine.specs.State.{Candidate, Owner, Package, Request, Table, State, on_table, owner_is}
use Rattle.machine.specs.Table.{at, has, one}
use Rattle.machine.specs.Announce.{without, cut}
use Rattle.machine.specs.Sound.{Sound, OwnerFits, Packed, Lawful, Ordered}
use Rattle.machine.proofs.Change.{has-without}
use Rattle.machine.proofs.Tests.{never, order, or_left as left, or_right as right}
use Rattle.machine.proofs.Table.{lawful_at}
use Rattle.store.specs.Flat.{flat_of, own_bit, row_of, rows_of, rows_for, place_for, places_for, tally}
use Rattle.store.specs.Counting.{unbump}
use Rattle.store.specs.Image.{Shows, Writes}
use Rattle.store.specs.Shown.{row_conns, Shown, with_rows, with_conns}
use Rattle.store.proofs.Bits.{own_row, conn-row}
use Rattle.store.proofs.Frame.{shown, length_remove}
use Rattle.store.proofs.RowsAt.{Among, ahead, behind, rows-among, cut-rows, cut-places, tally_remove}
use Rattle.store.proofs.Split.{rows_below}
use Rattle.requests.proofs.Keeping.{sized_of, light_of, writes_by}

-- ---- the row of a connection, found in the window of its key

first_same : (ks : List ℕ) (from to x p q : ℕ) → First ks from to x p → First ks from to x q → p ≡ q
first_same ks from to x p q a b =
    elim (order p q) [
      | inl l ↦ absurd (b.none p a.least l (a.found (omega (arith, b.most))))
      | inr (inl e) ↦ e
      | inr (inr l) ↦ absurd (a.none q b.least l (b.found (omega (arith, a.most))))
    ]

first_seam : (a m rest : List ℕ) (to x : ℕ) → ((j : ℕ) → j < length m → get_or m j 0 ≡ x → ⊥) → length a + length m < to → First (a ++ (m ++ (x ∷ rest))) (length a) to x (length a + length m)
first_seam a m rest to x n l = record {
  least = omega arith;
  most = omega arith;
  none = λ j p q z.
      let e : j ≡ length a + (j - length a) = omega arith in
      let y : get_or (a ++ (m ++ (x ∷ rest))) j 0 ≡ get_or m (j - length a) 0 = ap (λ (i : ℕ). get_or (a ++ (m ++ (x ∷ rest))) i 0) e ∙ get_or-append-add a (m ++ (x ∷ rest)) (j - length a) 0 ∙
      get_or-append m (x ∷ rest) 0 (j - length a) (omega arith) in
      n (j - length a) (omega arith) (sym y ∙ z);
  found = λ p. get_or-append-add a (m ++ (x ∷ rest)) (length m) 0 ∙ get_or_at m x rest 0 (length m) refl;
}

pub conns-append : (a b : List Row) → row_conns (a ++ b) ≡ row_conns a ++ row_conns b
conns-append [] b = refl
conns-append (r ∷ a) b = rw (conns-append a b)

pub hasnt_at : (q : Request) (n : ℕ) (cs : List Candidate) → has n cs ≡ false → (j : ℕ) → j < length (row_conns (map (row_of q) cs)) → get_or (row_conns (map (row_of q) cs)) j 0 ≡ n → ⊥
unfolding has
hasnt_at q n [] h j l z = omega arith
hasnt_at q n (c ∷ cs) h zero l z = eqb-false c.connection n (left (eqb c.connection n) (has n cs) h) (sym (conn-row q c) ∙ z)
hasnt_at q n (c ∷ cs) h (suc j) l z = hasnt_at q n cs (right (eqb c.connection n) (has n cs) h) j (omega arith) z

module _ (k : Key) (n lo : ℕ) (t : Table) (o : Ordered lo t) (f : Among n (at k t).candidates) where
  abbrev r : Request
  r = at k t

  split : row_conns (rows_of t) ≡ row_conns (rows_below k t) ++ (row_conns (map (row_of r) f.front) ++ (n ∷ row_conns (behind k n lo t o f)))
  split =
      ap row_conns (rows-among k n lo t o f ∙ append_assoc (rows_below k t) (map (row_of r) f.front) _)
      ∙ conns-append (rows_below k t) _
      ∙ ap (λ (l : List ℕ). row_conns (rows_below k t) ++ l)
      (conns-append (map (row_of r) f.front) _ ∙ ap (λ (x : ℕ). row_conns (map (row_of r) f.front) ++ (x ∷ row_conns (behind k n lo t o f))) (conn-row r f.one ∙ f.is))

  long : length (ahead k n lo t o f) ≡ length (row_conns (rows_below k t)) + length (row_conns (map (row_of r) f.front))
  long = rw (length-append, length-map (rows_below k t) (λ (a : Row). a.conn), length-map (map (row_of r) f.front) (λ (a : Row). a.conn))

  pub ahead_in : length (ahead k n lo t o f) < length (rows_below k t ++ rows_for (at k t))
  unfolding rows_for
  ahead_in = rw (length-append, length-append, length-map (at k t).candidates (row_of r), length-map f.front (row_of r), ap length f.all, length-append) (omega arith)

  pub found_at : {from to i : ℕ} → from ≡ length (rows_below k t) → to ≡ length (rows_below k t ++ rows_for (at k t)) → First (row_conns (rows_of t)) from to n i → i ≡ length (ahead k n lo t o f)
  found_at {from} {to} {i} p q m =
      let e : from ≡ length (row_conns (rows_below k t)) = p ∙ sym (length-map (rows_below k t) (λ (a : Row). a.conn)) in
      let l = ahead_in in
      let z = long in
      let w = first_seam (row_conns (rows_below k t)) (row_conns (map (row_of r) f.front)) (row_conns (behind k n lo t o f)) to n (hasnt_at r n f.front f.none) (omega arith) in
      let a₀ = length (row_conns (rows_below k t)) in
      let i₀ = a₀ + length (row_conns (map (row_of r) f.front)) in
      let w₁ : First (row_conns (rows_of t)) a₀ to n i₀ = subst (λ (a : List ℕ). First a a₀ to n i₀) (sym split) w in
      let w₂ : First (row_conns (rows_of t)) from to n i₀ = subst (λ (a : ℕ). First (row_conns (rows_of t)) a to n i₀) (sym e) w₁ in
      first_same (row_conns (rows_of t)) from to n i (length (ahead k n lo t o f)) m (subst (λ (a : ℕ). First (row_conns (rows_of t)) from to n a) (sym z) w₂)

  pub row_there : (d : Row) {i : ℕ} → i ≡ length (ahead k n lo t o f) → get_or (rows_of t) i d ≡ row_of (at k t) f.one
  row_there d {i} e = ap (λ (l : List Row). get_or l i d) (rows-among k n lo t o f) ∙ get_or_at (ahead k n lo t o f) (row_of r f.one) (behind k n lo t o f) d i (sym e)

  pub ahead_less : length (ahead k n lo t o f) < length (rows_of t)
  ahead_less =
      let e = ap length (rows-among k n lo t o f) in
      rw e (simp length-append (omega arith))

-- ---- the place of a request that loses a candidate who does not own it

has_kept : (m n : ℕ) (cs : List Candidate) → eqb m n ≡ false → has m cs ≡ true → without n cs ≡ [] → ⊥
has_kept m n cs e h w = nobody (ap (has m) (sym w) ∙ has-without m n cs e h)
  where
    nobody : has m [] ≡ true → ⊥
    nobody z = unfold has in never z

pub place_stays : (r : Request) (n : ℕ) → Lawful r → owner_is n r.owner ≡ false → without n r.candidates ≡ [] → places_for r ≡ []
unfolding places_for
place_stays r n l v w = go r.owner r.info r.«package» v l.owner l.packed
  where
    go : (o : Option Owner) (i : Bool) (p : Option Package) → owner_is n o ≡ false → OwnerFits o r.candidates → Packed r.key.kind o i p r.parents → place_for r i p ≡ []
    go (some o) i p v f k = absurd (has_kept o.connection n r.candidates v f.0 w)
    go none true (some p) v f k = absurd k
    go none true none v f k = never k.0
    go none false (some p) v f k = never k.0
    go none false none v f k = refl

-- ---- the row is out, then the tally

module _ (st : State) (s : Sound st) {i : ℕ} {b₁ : List ℕ} (h : Shows b₁ (with_rows (remove_at i (rows_of st.table)) (flat_of st))) (l : i < length (rows_of st.table)) where
  pub dropped-shown : Shown b₁
  dropped-shown =
      let z = sized_of st s in
      let n = length_remove (rows_of st.table) i l in
      shown h (record { limit = z.limit; places = z.places; rows_few = omega arith; conns_few = z.conns_few; places_few = z.places_few }) (light_of st s)

module _ (st : State) (s : Sound st) (k : Key) (n : ℕ) (v : owner_is n (at k st.table).owner ≡ false) (f : Among n (at k st.table).candidates) {i : ℕ} {b : List ℕ} where
  pub cut_made : i ≡ length (ahead k n 0 st.table s.bounded.ordered f)
      → Shows b (with_conns (unbump n 0 (tally (rows_of st.table))) (with_rows (remove_at i (rows_of st.table)) (flat_of st))) → Writes b (on_table (cut k n st.table) st)
  cut_made e h =
      let t = st.table in
      let o = s.bounded.ordered in
      let q = at k t in
      let rows : rows_of (cut k n t) ≡ remove_at i (rows_of t) = cut-rows k n 0 t o f ∙ ap (λ (j : ℕ). remove_at j (rows_of t)) (sym e) in
      let d : Row = row_of q f.one in
      let there = row_there k n 0 t o f d e in
      let name : (get_or (rows_of t) i d).conn ≡ n = ap (λ (a : Row). a.conn) there ∙ conn-row q f.one ∙ f.is in
      let own : own_bit (get_or (rows_of t) i d) ≡ 0 = ap own_bit there ∙ own_row q f.one ∙ ap (λ (m : ℕ). one (owner_is m q.owner)) f.is ∙ ap one v in
      let l : i < length (rows_of t) = omega (arith, ahead_less k n 0 t o f) in
      let conns : tally (rows_of (cut k n t)) ≡ unbump n 0 (tally (rows_of t)) = ap tally rows ∙ tally_remove (rows_of t) i d l ∙ rw (own, name) in
      writes_by st (cut k n t) rows conns (cut-places k n 0 t o f (place_stays q n (lawful_at k t s.bounded.lawful) v)) h
