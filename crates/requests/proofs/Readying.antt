-- A change that shows in every row of one request in the same way: a ready time, the mark.
use Prim.Native.Nat.{ℕ, ◌+◌, ◌/◌, ◌%◌, ◌<◌}
use mathlib.Core.Path.{◌≡◌, refl, sym, ap, ◌∙◌}
use mathlib.Core.Logic.{inl, inr}
use mathlib.Core.Bool.{Bool, true, false}
use mathlib.Core.List.{List, [], ◌∷◌, ◌++◌, map, append_assoc}
use mathlib.Core.Option.{Option, none, some}
use native.Mathlib.Omega.{arith}
use lib.ListN.{length, take, drop}
use lib.Seq.{take_at, drop_at}
use Rattle.ident.specs.Number.{Key}
use Rattle.regions.specs.declared.Row.{Row}
use Rattle.regions.specs.Rows.{with_ready, with_bits}
use Rattle.machine.specs.State.{Candidate, Package, Request, State, on_table, with_candidates, marked, ready_at, owner_is}
use Rattle.machine.specs.Table.{at, change, one}
use Rattle.machine.specs.Sound.{Sound}
use Rattle.machine.proofs.Table.{lawful_at}
use Rattle.machine.proofs.Tests.{test}
use Rattle.store.specs.Flat.{flat_of, own_bit, row_of, rows_for, rows_of, place_for, places_for, tally}
use Rattle.store.specs.Image.{Shows, Writes}
use Rattle.store.specs.Shown.{with_rows}
use Rattle.store.specs.Stamps.{marked_row, map_in}
use Rattle.store.proofs.Bits.{bits_few, mark-row}
use Rattle.store.proofs.PlacesAt.{places-unchanged}
use Rattle.store.proofs.RowBack.{rows_like}
use Rattle.store.proofs.RowChanges.{rows-ready, row-marked, row_remarked}
use Rattle.store.proofs.Split.{rows_below, rows_above, rows_at, rows-change, places_none}
use Rattle.requests.proofs.Keeping.{writes_by}

map_seam : {A : Type 0} (g : A → A) (a b c : List A) → map_in g (length a) (length (a ++ b)) (a ++ (b ++ c)) ≡ a ++ (map g b ++ c)
unfolding map_in
map_seam g a b c =
    let e : a ++ (b ++ c) ≡ (a ++ b) ++ c = sym (append_assoc a b c) in
    let p : take (length a) (a ++ (b ++ c)) ≡ a = take_at a (b ++ c) (length a) refl in
    let q : take (length (a ++ b)) (a ++ (b ++ c)) ≡ a ++ b = ap (take (length (a ++ b))) e ∙ take_at (a ++ b) c (length (a ++ b)) refl in
    let r : drop (length (a ++ b)) (a ++ (b ++ c)) ≡ c = ap (drop (length (a ++ b))) e ∙ drop_at (a ++ b) c (length (a ++ b)) refl in
    rw (p, q, r, drop_at a b (length a) refl)

-- rows changed in nothing that the tally reads
module _ (x : Row → Row) (cn : (q : Row) → (x q).conn ≡ q.conn) (ow : (q : Row) → own_bit (x q) ≡ own_bit q) where
  tally-map : (b c : List Row) → tally (map x b ++ c) ≡ tally (b ++ c)
  unfolding tally
  tally-map [] c = refl
  tally-map (q ∷ b) c = rw (cn q, ow q, tally-map b c)

  tally-within : (a b c : List Row) → tally (a ++ (map x b ++ c)) ≡ tally (a ++ (b ++ c))
  unfolding tally
  tally-within [] b c = tally-map b c
  tally-within (q ∷ a) b c = rw (tally-within a b c)

  module _ (st : State) (s : Sound st) (k : Key) (g : Request → Request) (rows : rows_for (g (at k st.table)) ≡ map x (rows_for (at k st.table)))
      (pl : places_for (g (at k st.table)) ≡ places_for (at k st.table))
      (gone : (g (at k st.table)).candidates ≡ [] → (at k st.table).candidates ≡ []) where
    pub window_made : {b : List ℕ} {from to : ℕ} → from ≡ length (rows_below k st.table) → to ≡ length (rows_below k st.table ++ rows_for (at k st.table))
        → Shows b (with_rows (map_in x from to (rows_of st.table)) (flat_of st)) → Writes b (on_table (change k g st.table) st)
    window_made {b} {from} {to} e f h =
        let t = st.table in
        let o = s.bounded.ordered in
        let A = rows_below k t in
        let B = rows_for (at k t) in
        let C = rows_above k t in
        let new : rows_of (change k g t) ≡ A ++ (map x B ++ C) = rows-change k 0 t o g ∙ ap (λ (l : List Row). A ++ (l ++ C)) rows in
        let here : map_in x from to (rows_of t) ≡ A ++ (map x B ++ C) = ap (λ (j : ℕ). map_in x j to (rows_of t)) e ∙ ap (λ (j : ℕ). map_in x (length A) j (rows_of t)) f ∙
        ap (map_in x (length A) (length (A ++ B))) (rows_at k 0 t o) ∙ map_seam x A B C in
        let conns : tally (rows_of (change k g t)) ≡ tally (rows_of t) = ap tally new ∙ tally-within A B C ∙ ap tally (sym (rows_at k 0 t o)) in
        writes_by st (change k g t) (new ∙ sym here) conns (places-unchanged k 0 t o g (λ z. pl ∙ places_none (at k t) (lawful_at k t s.bounded.lawful) (gone z)) pl) h

-- ---- "every remaining candidate there gets ready = now"

abbrev pub readied : ℕ → Request → Request
readied v r = with_candidates (map (ready_at v) r.candidates) r

pub readied-rows : (v : ℕ) (r : Request) → rows_for (readied v r) ≡ map (with_ready v) (rows_for r)
unfolding rows_for
readied-rows v r = rows_like (readied v r) r (map (ready_at v) r.candidates) refl refl refl ∙ rows-ready r r.candidates v

pub readied-places : (v : ℕ) (r : Request) → places_for (readied v r) ≡ places_for r
unfolding places_for
readied-places v r = go r.info r.«package»
  where
    go : (i : Bool) (p : Option Package) → place_for (readied v r) i p ≡ place_for r i p
    go i (some p) = refl
    go true none = refl
    go false none = refl

-- ---- the mark

few_row : (r : Request) (c : Candidate) → (row_of r c).bits < 32
unfolding row_of
few_row r c = bits_few r.key.kind c.item.kind c.preferred (owner_is c.connection r.owner) r.fallback

marked_is : (r : Request) (c : Candidate) → row_of (marked r) c ≡ marked_row (row_of r c)
marked_is r c =
    let l = few_row r c in
    elim (test r.fallback) [
      | inl e ↦ let m : (row_of r c).bits / 16 % 2 ≡ 1 = mark-row r c ∙ ap one e in
          let n : (row_of r c).bits ≡ (row_of r c).bits % 16 + 16 = omega arith in
          row_remarked r c e ∙ ap (λ (b : ℕ). with_bits b (row_of r c)) n
      | inr e ↦ let m : (row_of r c).bits / 16 % 2 ≡ 0 = mark-row r c ∙ ap one e in
          let n : (row_of r c).bits + 16 ≡ (row_of r c).bits % 16 + 16 = omega arith in
          row-marked r c e ∙ ap (λ (b : ℕ). with_bits b (row_of r c)) n
    ]

pub marked-rows : (r : Request) → rows_for (marked r) ≡ map marked_row (rows_for r)
unfolding rows_for
marked-rows r = go r.candidates
  where
    go : (cs : List Candidate) → map (row_of (marked r)) cs ≡ map marked_row (map (row_of r) cs)
    go [] = refl
    go (c ∷ cs) = rw (marked_is r c, go cs)

pub marked-places : (r : Request) → places_for (marked r) ≡ places_for r
unfolding places_for
marked-places r = go r.info r.«package»
  where
    go : (i : Bool) (p : Option Package) → place_for (marked r) i p ≡ place_for r i p
    go i (some p) = refl
    go true none = refl
    go false none = refl

pub marked-owns : (q : Row) → own_bit (marked_row q) ≡ own_bit q
marked-owns q = omega arith
