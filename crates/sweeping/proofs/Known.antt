-- The first row after a cursor.
use Prim.Native.Nat.{ℕ, ◌+◌}
use mathlib.Core.Path.{◌≡◌, sym, subst, ◌∙◌}
use mathlib.Core.List.{List, ◌++◌}
use mathlib.Core.Option.{Option, none, some}
use native.Mathlib.Omega.{arith}
use Rattle.ident.specs.declared.Key.{Key as KeyRead}
use Rattle.ident.specs.Number.{Key, place}
use Rattle.ident.specs.Words.{key_num}
use Rattle.words.specs.Words.{words}
use Rattle.regions.specs.declared.Key.{Key as RowKey}
use Rattle.regions.specs.Rows.{key_number}
use Rattle.machine.specs.State.{State}
use Rattle.machine.specs.Table.{keys}
use Rattle.machine.specs.Sound.{CursorFits}
use Rattle.machine.specs.Sweep.{round}
use Rattle.store.specs.Flat.{flat_of, rows_of}
use Rattle.store.specs.Shown.{rows_in, row_numbers, Seek}
use Rattle.store.proofs.Frame.{sizes}
use Rattle.requests.proofs.Keeping.{rows_in_order, to_at}
use Rattle.regions.specs.Keys.{KeyWords}
use Rattle.cursors.specs.InWords.{known_at, cursor_in}
use Rattle.cursors.proofs.InState.{known_read}
use Rattle.sweeping.specs.Batches.{keys_over, BeginsAt, AfterCursor, AfterKnown}
use Rattle.sweeping.proofs.Rounds.{rounds_none, rounds_some}

-- the rows of a state, of which there are n, from the row r on and round to it
abbrev From : ℕ → ℕ → State → Option Key → Type 0
From n r st k = keys_over r n (rows_of st.table) ++ keys_over 0 r (rows_of st.table) ≡ round k (keys st.table)

module _ {b : List ℕ} where
  pub after_none : AfterCursor b none 0
  after_none = record {
    most = omega arith;
    round_is = λ fits st s w. rounds_none st.table s.bounded.ordered s.bounded.lawful s.bounded.filled (sizes w).rows;
  }

  pub after_some : (k : KeyRead) {x : RowKey} → KeyWords k x → {r : ℕ} → Seek b (λ f. row_numbers f.rows) (rows_in b) (key_number x + 1) r → AfterCursor b (some (key_num k)) r
  after_some k x q = record {
    most = q.most;
    round_is = λ fits st s w.
        let i = to_at st s (key_num k) x.small x.number (q.bound (flat_of st) w (rows_in_order st s)) in
        rounds_some st.table s.bounded.ordered s.bounded.lawful s.bounded.filled (sizes w).rows (key_num k) i;
  }

pub after-known : {b : List ℕ} {c : Option Key} {r : ℕ} → c ≡ cursor_in (words b) known_at → AfterCursor b c r → AfterKnown b r
after-known {b} {c} {r} e a = record {
  most = a.most;
  round_is = λ st s w.
      let k : c ≡ st.known_cursor = e ∙ known_read st w in
      subst (λ (o : Option Key). From (rows_in b) r st o) k (a.round_is (subst CursorFits (sym k) s.known) st s w);
}

-- ---- where the keys behind it begin

pub begins_none : (b : List ℕ) → BeginsAt b 0 0
begins_none b = record {
  few = omega arith;
  bound = λ st s o. record { most = omega arith; below = λ j h. absurd (omega arith); above = λ j h l. omega arith };
}

pub begins_some : {b : List ℕ} {k : KeyRead} {key : RowKey} {from : ℕ} → KeyWords k key
    → Seek b (λ f. row_numbers f.rows) (rows_in b) (key_number key + 1) from → BeginsAt b (place (key_num k) + 1) from
begins_some {k = k} {key} w q = record {
  few = q.most;
  bound = λ st s o.
      let e : key_number key + 1 ≡ place (key_num k) + 1 = omega (arith, w.number) in
      rw e at (q.bound (flat_of st) o (rows_in_order st s));
}
