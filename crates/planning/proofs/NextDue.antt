-- The first owner that is due from a place on, found among the rows of the bytes, and expired.
use Prim.Native.Nat.{ℕ, suc, ◌+◌, ◌≤◌, ◌<◌}
use mathlib.Core.Path.{◌≡◌, refl, sym, ap, subst, ◌∙◌}
use mathlib.Core.Bool.{true}
use mathlib.Core.List.{List, [], ◌∷◌, ◌++◌}
use native.Mathlib.Omega.{arith}
use lib.ListN.{length, get_or, drop, length-map}
use borrow.Author.Tests.{le-leb}
use Rattle.ident.specs.declared.Key.{Key as Given}
use Rattle.ident.specs.Number.{top, Key, place}
use Rattle.ident.specs.Words.{key_num}
use Rattle.regions.specs.declared.Row.{Row}
use Rattle.regions.specs.Rows.{key_number, key_of}
use Rattle.machine.specs.State.{State}
use Rattle.machine.specs.Plan.{Due}
use Rattle.machine.specs.Sound.{Sound}
use Rattle.store.specs.Flat.{flat_of, rows_of}
use Rattle.store.specs.Gather.{key_at}
use Rattle.store.specs.Image.{Writes}
use Rattle.store.specs.Shown.{rows_in, Kept}
use Rattle.store.proofs.Counts.{distinct_in}
use Rattle.store.proofs.Frame.{sizes}
use Rattle.store.proofs.Keys.{row_number}
use Rattle.planning.specs.Expiring.{still_from, is_still, row_due, due_rows, SeekDue, BeginsAt, DueNext, NextDue}
use Rattle.planning.specs.declared.expiring.Overdue.{Overdue}
use Rattle.std.specs.Prelude as rust
use Rattle.std.proofs.lemmas.Option.{none-some, same_Some}
use Rattle.selecting.proofs.InOrder.{mapped_at}
use Rattle.planning.proofs.RowsDue.{table-rows, rows_from, rows_next, rows_over}

row_said : (low now x : ℕ) (r : Row) → x ≤ place (key_at r) → is_still low now r ≡ true → row_due low now x r ≡ record { key = key_at r; connection = r.conn } ∷ []
row_said low now x r h e = rw (le-leb x (place (key_at r)) h, e) refl

module _ {b : List ℕ} (low now : ℕ) {x from : ℕ} {o : rust.Option Row} (q : BeginsAt b x from) (z : SeekDue b low now from o) where
  module _ (st : State) (s : Sound st) (w : Writes b st) where
    abbrev rows : List Row
    rows = rows_of st.table

    left : still_from low now x st.table ≡ due_rows low now x (drop z.at rows)
    left =
        let bound = q.bound st s w in
        sym (table-rows low now x st.table s.bounded.lawful (distinct_in st.table s.bounded.once))
        ∙ rows_from low now x from rows (λ j h l. bound.below j h)
        ∙ z.passed (flat_of st) x w

    due_none : rows_in b ≤ z.at → still_from low now x st.table ≡ []
    due_none h = left ∙ rows_over low now x z.at rows (omega (arith, h, (sizes w).rows))

    module _ (row : Row) (found : o ≡ rust.Some row) where
      is : row ≡ get_or rows z.at row
      is = z.stands row found (flat_of st) row w

      late : x ≤ place (key_at row)
      late =
          let l : z.at < length rows = omega (arith, z.inside row found, (sizes w).rows) in
          let n = (q.bound st s w).above z.at z.least (simp length-map (omega arith)) in
          let m = mapped_at (λ r. key_number (key_of r)) rows z.at row 0 l in
          let y : place (key_at (get_or rows z.at row)) ≡ place (key_at row) = ap (λ (r : Row). place (key_at r)) (sym is) in
          omega (arith, n, m, row_number (get_or rows z.at row), y)

      head : still_from low now x st.table ≡ record { key = key_at row; connection = row.conn } ∷ due_rows low now x (drop (z.at + 1) rows)
      head =
          left ∙ rows_next low now x row z.at rows (omega (arith, z.inside row found, (sizes w).rows))
          ∙ ap (λ (a : Row). row_due low now x a ++ due_rows low now x (drop (z.at + 1) rows)) (sym is)
          ∙ ap (λ (l : List Due). l ++ due_rows low now x (drop (z.at + 1) rows)) (row_said low now x row late (z.due row found))

  -- ---- what is answered

  pub next_ends : o ≡ rust.None → NextDue b low now x rust.None
  next_ends e = record { ends = λ d st s w. due_none st s w (z.none e); goes = λ w d. absurd (none-some w d) }

  pub next_goes : (row : Row) → o ≡ rust.Some row → (j : Given) → key_num j ≡ key_at row → (key_num j).hash < top → Kept b → NextDue b low now x (rust.Some (record { key = j; connection = row.conn }))
  next_goes row found j e small p = record {
    ends = λ d. absurd (none-some _ (sym d));
    goes = λ v d.
        subst (λ (y : Overdue). DueNext b low now x (key_num y.key) y.connection) (same_Some _ _ d)
        (record {
          first = λ st s w.
              let ds = due_rows low now x (drop (z.at + 1) (rows_of st.table)) in
              record { rest = ds; is = head st s w row found ∙ ap (λ (k : Key). record { key = k; connection = row.conn } ∷ ds) (sym e) };
          from = subst (λ (k : Key). x ≤ place k) (sym e) (late p.state p.sound p.writes row found);
          small = small;
        });
  }
