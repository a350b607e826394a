-- The rows are out, then the tally: the bytes write the table that the connection has left.
use Prim.Native.Nat.{ℕ, ◌+◌}
use mathlib.Core.Path.{◌≡◌, refl, sym, ap, ◌∙◌}
use mathlib.Core.Bool.{Bool}
use mathlib.Core.List.{List, [], ◌∷◌}
use native.Mathlib.Omega.{arith}
use lib.ListN.{length}
use Rattle.ident.specs.Number.{Key, place}
use Rattle.regions.specs.declared.Row.{Row}
use Rattle.regions.specs.declared.Key.{Key as RowKey}
use Rattle.regions.specs.Rows.{key_number}
use Rattle.machine.specs.State.{State, Table, on_table}
use Rattle.machine.specs.Sound.{Sound}
use Rattle.store.specs.Flat.{flat_of, rows_of, places_of, tally}
use Rattle.store.specs.Image.{Shows, Writes}
use Rattle.store.specs.Shown.{Shown, with_rows, with_conns}
use Rattle.store.proofs.Counts.{distinct_in}
use Rattle.store.proofs.Frame.{shown}
use Rattle.requests.proofs.Keeping.{sized_of, light_of, writes_by}
use Rattle.package_stages.specs.Dead.{filter}
use Rattle.cutting.specs.Cuts.{between, cuts, stays, remains, lessen}
use Rattle.cutting.proofs.AtOnce.{cuts_at_once}
use Rattle.cutting.proofs.RowsLeft.{rows_left_lem, places_left}
use Rattle.cutting.proofs.Lessening.{filter-fewer, tally_left}
use Rattle.cutting.proofs.Testing.{idle, stays_between}

filter_same : {A : Type 0} (p q : A → Bool) → ((x : A) → p x ≡ q x) → (l : List A) → filter p l ≡ filter q l
unfolding filter
filter_same p q h [] = refl
filter_same p q h (a ∷ l) = rw (h a, filter_same p q h l)

module _ (st : State) (s : Sound st) where
  abbrev rs : List Row
  rs = rows_of st.table

  -- with the rows out every index and sum is in range
  pub dropped-shown : (q : Row → Bool) {b : List ℕ} → Shows b (with_rows (filter q (rows_of st.table)) (flat_of st)) → Shown b
  dropped-shown q h =
      let z = sized_of st s in
      let n = filter-fewer q rs in
      shown h (record { limit = z.limit; places = z.places; rows_few = omega arith; conns_few = z.conns_few; places_few = z.places_few }) (light_of st s)

  module _ (n : ℕ) (a b : Key) (from to : RowKey) (e : key_number from ≡ place a) (f : key_number to ≡ place b) where
    abbrev t' : Table
    t' = cuts n (between a b) st.table

    pub cuts_made : (d : ℕ) {w : List ℕ} → length (rows_of st.table) ≡ d + length (filter (stays n from to) (rows_of st.table))
        → Shows w (with_conns (lessen n d (tally (rows_of st.table))) (with_rows (filter (stays n from to) (rows_of st.table)) (flat_of st)))
        → Writes w (on_table (cuts n (between a b) st.table) st)
    cuts_made d long h =
        let t = st.table in
        let b₀ = s.bounded in
        let once = cuts_at_once n (between a b) 0 t b₀.ordered b₀.filled in
        let rows : rows_of t' ≡ filter (stays n from to) rs =
        ap rows_of once ∙ rows_left_lem n (between a b) t (distinct_in t b₀.once) ∙ filter_same (remains n (between a b)) (stays n from to) (λ r. sym (stays_between n a b from to e f r)) rs in
        let conns : tally (rows_of t') ≡ lessen n d (tally rs) = ap tally rows ∙ tally_left (stays n from to) n d rs (idle n from to) long in
        writes_by st t' rows conns (ap places_of once ∙ places_left n (between a b) t b₀.lawful b₀.filled) h
