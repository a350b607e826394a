-- Bytes that write a sound state: every index and sum is in range, rows and connections are in order.
use Prim.Native.Nat.{ℕ, ◌+◌, ◌≤◌, ◌<◌}
use mathlib.Core.Path.{◌≡◌}
use mathlib.Core.Logic.{inl, inr}
use mathlib.Core.List.{List, ◌++◌}
use native.Mathlib.Nat.{le_refl}
use native.Mathlib.Omega.{arith}
use lib.ListN.{length}
use Rattle.ident.specs.Number.{top, Key, place}
use Rattle.regions.specs.declared.Row.{Row}
use Rattle.regions.specs.declared.Conn.{Conn}
use Rattle.regions.specs.Order.{Sorted, Bound}
use Rattle.places.specs.Places.{Place}
use Rattle.machine.specs.State.{State, Table, on_table}
use Rattle.machine.specs.Table.{at}
use Rattle.machine.specs.Typed.{Each}
use Rattle.machine.specs.Sound.{Sound}
use Rattle.machine.proofs.Tests.{order}
use Rattle.store.specs.Flat.{head_of, flat_of, rows_of, rows_for, tally, places_of}
use Rattle.store.specs.FlatSound.{ConnFits}
use Rattle.store.specs.Image.{Shows, Writes}
use Rattle.store.specs.Shown.{rows_in, row_numbers, conn_names, Seek, Sized, Light, Shown, Kept}
use Rattle.store.proofs.Bounds.{bound_same}
use Rattle.store.proofs.Entries.{names-sorted, tally-length}
use Rattle.store.proofs.Frame.{shown}
use Rattle.store.proofs.RowsFit.{each_by}
use Rattle.store.proofs.Split.{rows_below}
use Rattle.store.proofs.Tally.{tally_tallied}
use Rattle.store.proofs.ToFlat.{flat_sound}
use Rattle.store.proofs.Window.{rows-sorted, rows_from, rows_to}

pub rows_in_order : (st : State) → Sound st → Sorted (row_numbers (rows_of st.table))
rows_in_order st s = rows-sorted 0 (rows_of st.table) (flat_sound st s).ascending

pub conns_in_order : (rs : List Row) → Sorted (conn_names (tally rs))
conns_in_order rs = names-sorted 0 (tally rs) (tally_tallied rs)

light : (c : Conn) → ConnFits c → Light c
light c f = record { held = omega (arith, f.held); owned = omega (arith, f.owned) }

module _ (st : State) (s : Sound st) where
  pub sized_of : Sized (flat_of st)
  sized_of =
      let f = flat_sound st s in
      record { limit = f.most-limit; places = f.most-places; rows_few = f.rows_few; conns_few = omega (arith, f.rows_few, tally-length (rows_of st.table)); places_few = f.places_few }

  pub light_of : Each Light (tally (rows_of st.table))
  light_of = each_by (tally (rows_of st.table)) light (flat_sound st s).conns-fit

pub kept_shown : {b : List ℕ} → Kept b → Shown b
kept_shown k = shown k.writes (sized_of k.state k.sound) (light_of k.state k.sound)

-- bytes that show the records of a table write the state with that table
pub writes_by : {b : List ℕ} (st : State) (t : Table) {rs : List Row} {cs : List Conn} {ps : List Place} → rows_of t ≡ rs → tally (rows_of t) ≡ cs → places_of t ≡ ps
    → Shows b (record { head = head_of st; rows = rs; conns = cs; places = ps }) → Writes b (on_table t st)
writes_by st t e f g h = rw (f, e, g) h

-- the places of a number and of the next one
pub bounds-order : (ks : List ℕ) (x p q : ℕ) → Bound ks x p → Bound ks (x + 1) q → p ≤ q
bounds-order ks x p q a b =
    elim (order q p) [
      | inl l ↦ absurd (omega (arith, a.below q l, b.above q (le_refl q) (omega (arith, a.most))))
      | inr (inl e) ↦ omega arith
      | inr (inr l) ↦ omega arith
    ]

pub sought_order : {b : List ℕ} {x p q : ℕ} → Kept b → Seek b (λ f. row_numbers f.rows) (rows_in b) x p → Seek b (λ f. row_numbers f.rows) (rows_in b) (x + 1) q → p ≤ q
sought_order {b} {x} {p} {q} k a c =
    let o = rows_in_order k.state k.sound in
    bounds-order (row_numbers (rows_of k.state.table)) x p q (a.bound (flat_of k.state) k.writes o) (c.bound (flat_of k.state) k.writes o)

-- where the rows of a key stand
module _ (st : State) (s : Sound st) (k : Key) (small : k.hash < top) {x : ℕ} (e : x ≡ place k) where
  pub from_at : {i : ℕ} → Bound (row_numbers (rows_of st.table)) x i → i ≡ length (rows_below k st.table)
  from_at {i} b = bound_same (row_numbers (rows_of st.table)) (place k) i (length (rows_below k st.table)) (rw e at b) (rows_from k 0 st.table s.bounded.ordered small)

  pub to_at : {i : ℕ} → Bound (row_numbers (rows_of st.table)) (x + 1) i → i ≡ length (rows_below k st.table ++ rows_for (at k st.table))
  to_at {i} b = bound_same (row_numbers (rows_of st.table)) (place k + 1) i (length (rows_below k st.table ++ rows_for (at k st.table))) (rw e at b)
      (rows_to k 0 st.table s.bounded.ordered small)
