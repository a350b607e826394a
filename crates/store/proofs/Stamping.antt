-- Rows changed one after the other.
use Prim.Native.Nat.{ℕ, suc, ◌+◌, ◌≤◌, ◌<◌}
use mathlib.Core.Path.{◌≡◌, refl, sym, ap, subst, ◌∙◌}
use mathlib.Core.List.{List, [], ◌∷◌, ◌++◌, map, append_assoc}
use native.Mathlib.Numerals.{add-one}
use native.Mathlib.Omega.{arith}
use lib.ListN.{length, take, drop, get_or, set, length-append, length-take, length-drop, length-map, length-set, take-append-drop}
use lib.Seq.{slice_empty, drop-cons, take-suc, drop-append-le, set_at, get_or_at}
use Rattle.regions.specs.declared.Row.{Row}
use Rattle.store.specs.Flat.{Flat}
use Rattle.store.specs.Image.{Shows}
use Rattle.store.specs.Shown.{rows_in, Shown, with_rows, Turns}
use Rattle.store.specs.Stamps.{map_in}
use Rattle.store.proofs.Frame.{sizes, shown}

map-append : {A : Type 0} (g : A → A) (a b : List A) → map g (a ++ b) ≡ map g a ++ map g b
map-append g [] b = refl
map-append g (x ∷ a) b = rw (map-append g a b)

module _ {A : Type 0} (g : A → A) (from : ℕ) (l : List A) where
  pub map_none : map_in g from from l ≡ l
  unfolding map_in
  map_none = rw (slice_empty from l) (take-append-drop from l)

  module _ (i : ℕ) (h : from ≤ i) (m : i < length l) (d : A) where
    abbrev front : List A
    front = take from l ++ map g (drop from (take i l))

    front_long : length front ≡ i
    front_long = simp (length-append, length-map, length-drop, length-take) (omega arith)

    at_seam : map_in g from i l ≡ front ++ (get_or l i d ∷ drop (suc i) l)
    unfolding map_in
    at_seam = rw (drop-cons l i d m) (sym (append_assoc (take from l) (map g (drop from (take i l))) (get_or l i d ∷ drop (suc i) l)))

    pub map_read : get_or (map_in g from i l) i d ≡ get_or l i d
    map_read = rw at_seam (get_or_at front (get_or l i d) (drop (suc i) l) d i front_long)

    pub map_more : set (map_in g from i l) i (g (get_or l i d)) ≡ map_in g from (i + 1) l
    unfolding map_in
    map_more =
        let n : from ≤ length (take i l) = simp length-take (omega arith) in
        let e : drop from (take (suc i) l) ≡ drop from (take i l) ++ (get_or l i d ∷ []) = rw (take-suc l i d m) (drop-append-le from (take i l) (get_or l i d ∷ []) n) in
        ap (λ (x : List A). set x i (g (get_or l i d))) at_seam
        ∙ set_at front (get_or l i d) (drop (suc i) l) (g (get_or l i d)) i front_long
        ∙ rw (add-one, e, map-append g (drop from (take i l)) (get_or l i d ∷ [])) (simp append_assoc)

  pub length-map_in : (to : ℕ) → from ≤ to → to ≤ length l → length (map_in g from to l) ≡ length l
  unfolding map_in
  length-map_in to h m = simp (length-append, length-map, length-drop, length-take) (omega arith)

-- what a loop over the rows from .. keeps, at i, of each change that is asked for
pub record Stamped (b b' : List ℕ) (asked : (Row → Row) → Type 0) (from to i : ℕ) : Type 0 where
  pub least : from ≤ i
  pub most : i ≤ to
  pub room : to ≤ rows_in b
  pub within : to ≤ rows_in b'
  pub long : length b' ≡ length b
  pub is_shown : Shown b'
  pub turns : (g : Row → Row) → asked g → Turns b b' (λ f. with_rows (map_in g from i f.rows) f)

pub stamped_none : {b : List ℕ} {asked : (Row → Row) → Type 0} {from to : ℕ} → Shown b → from ≤ to → to ≤ rows_in b → Stamped b b asked from to from
stamped_none {b} {asked} {from} s l m =
    record { least = omega arith; most = l; room = m; within = m; long = refl; is_shown = s; turns = λ g a f h. subst (λ (rs : List Row). Shows b (with_rows rs f)) (sym (map_none g from f.rows)) h }

-- a turn: the row at i is replaced by g of it
pub stamped_more : {b b' b'' : List ℕ} {asked : (Row → Row) → Type 0} {from to i : ℕ} (r x : Row) → Stamped b b' asked from to i → i < to → length b'' ≡ length b'
    → ((f : Flat) (d : Row) → Shows b' f → r ≡ get_or f.rows i d) → ((g : Row → Row) → asked g → x ≡ g r) → Turns b' b'' (λ f. with_rows (set f.rows i x) f) → Stamped b b'' asked from to (i + 1)
stamped_more {b} {b'} {b''} {asked} {from} {to} {i} r x st l n reads e turn =
    let s = st.is_shown in
    let h = turn s.flat s.shows in
    let z = s.sized in
    let y = sizes h in
    let k = length-set s.flat.rows i x in
    record {
      least = omega (arith, st.least);
      most = omega arith;
      room = st.room;
      within = omega (arith, st.within, s.sizes);
      long = n ∙ st.long;
      is_shown = shown h (record { limit = z.limit; places = z.places; rows_few = omega arith; conns_few = z.conns_few; places_few = z.places_few }) s.light;
      turns = λ g a f w.
          let p = st.turns g a f w in
          let u = sizes w in
          let j : i < length f.rows = omega (arith, st.room) in
          let c : x ≡ g (get_or f.rows i r) = e g a ∙ ap g (reads (with_rows (map_in g from i f.rows) f) r p ∙ map_read g from f.rows i st.least j r) in
          subst (λ (rs : List Row). Shows b'' (with_rows rs f)) (ap (set (map_in g from i f.rows) i) c ∙ map_more g from f.rows i st.least j r) (turn (with_rows (map_in g from i f.rows) f) p);
    }
