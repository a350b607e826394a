-- A scan of rows for the greatest victim: what each test shows, and what one row more does.
use Prim.Native.Nat.{◌%◌, ℕ, suc, ◌+◌, ◌-◌, ◌≤◌, ◌<◌}
use mathlib.Core.Path.{◌≡◌, refl, sym, ap, ◌∙◌}
use mathlib.Core.Bool.{Bool, true, false, ◌||◌}
use mathlib.Core.List.{List}
use mathlib.Core.Option.{Option, none, some}
use native.Mathlib.Omega.{arith}
use lib.ListN.{length, get_or}
use lib.Seq.{drop-cons}
use borrow.Author.Tests.{lt-ltb, le-ltb, ltb-true}
use Rattle.std.specs.Prelude as std
use Rattle.std.specs.Prelude.{if◌then◌else◌, Some, None, is_some}
use Rattle.ident.specs.Number.{Key, kind_is}
use Rattle.regions.specs.declared.Row.{Row}
use Rattle.regions.specs.Rows.{quad_number}
use Rattle.machine.specs.State.{Entry}
use Rattle.machine.specs.Announce.{after}
use Rattle.machine.proofs.Tests.{by_test, never, or_left}
use Rattle.store.specs.Gather.{key_at, candidate_at}
use Rattle.announcing.specs.Evicts.{entry_at, found, is_lower, key_after, protected, greater, or_row, greatest_over, part}

-- ---- which of two rows comes after the other

module _ (a b : Row) where
  pub prio_higher : b.prio < a.prio → true ≡ after (entry_at a) (entry_at b)
  unfolding after candidate_at
  prio_higher l = rw (lt-ltb b.prio a.prio l)

  pub prio-lower : a.prio < b.prio → false ≡ after (entry_at a) (entry_at b)
  unfolding after candidate_at
  prio-lower l = rw (le-ltb b.prio a.prio (omega arith), lt-ltb a.prio b.prio l)

  pub prio_same : a.prio ≡ b.prio → {r : Bool} → r ≡ key_after a b → r ≡ after (entry_at a) (entry_at b)
  unfolding after candidate_at
  prio_same l e = rw (le-ltb b.prio a.prio (omega arith), le-ltb a.prio b.prio (omega arith)) e

-- ---- one row more

pub none_found : (o : std.Option Row) → is_some o ≡ false → found o ≡ none
none_found None e = refl
none_found (Some r) e = never (sym e)

-- a row that passes by its bits or its priority alone
module _ (r : Row) (best : std.Option Row) {x : Bool} (ex : x ≡ (protected r.bits || is_lower r best)) where
  pub row-passes : x ≡ true → found best ≡ or_row (found best) r
  row-passes e = by_test (λ (o : Option Entry). found best ≡ o) (protected r.bits) (λ _. refl) (λ n. less best (sym (rw n at ex) ∙ e))
    where
      less : (o : std.Option Row) → is_lower r o ≡ true → found o ≡ some (greater (found o) (entry_at r))
      less None q = never q
      less (Some row) q = rw (sym (prio-lower r row (ltb-true r.prio row.prio q)))

  pub row-free : x ≡ false → false ≡ protected r.bits
  row-free e = sym (or_left (protected r.bits) (is_lower r best) (sym ex ∙ e))

module _ (r : Row) {x : Bool} (ex : x ≡ protected r.bits) where
  pub row_stays : x ≡ true → (o : Option Entry) → o ≡ or_row o r
  row_stays e o = rw (sym ex ∙ e)

  pub row_goes : x ≡ false → (o : Option Entry) → or_row o r ≡ some (greater o (entry_at r))
  row_goes e o = rw (sym ex ∙ e)

  module _ (e : x ≡ false) where
    pub first_row : some (entry_at r) ≡ or_row none r
    first_row = sym (row_goes e none)

    module _ (row : Row) {a : Bool} (ea : a ≡ after (entry_at r) (entry_at row)) where
      pub row_less : a ≡ false → some (entry_at row) ≡ or_row (some (entry_at row)) r
      row_less d = sym (row_goes e (some (entry_at row)) ∙ rw (sym ea ∙ d))

      pub row_more : a ≡ true → some (entry_at r) ≡ or_row (some (entry_at row)) r
      row_more d = sym (row_goes e (some (entry_at row)) ∙ rw (sym ea ∙ d))

-- ---- a part of a list of rows

module _ (rs : List Row) where
  pub over_none : (o : Option Entry) (i to : ℕ) → to ≤ i → greatest_over o (part i to rs) ≡ o
  unfolding greatest_over
  over_none o i to h = let z : to - i ≡ 0 = omega arith in rw z

  over_more : (o : Option Entry) (i to : ℕ) (d : Row) → i < to → to ≤ length rs → greatest_over o (part i to rs) ≡ greatest_over (or_row o (get_or rs i d)) (part (i + 1) to rs)
  unfolding greatest_over
  over_more o i to d l h =
      let m : i < length rs = omega arith in
      let z : to - i ≡ suc (to - (i + 1)) = omega arith in
      let s : suc i ≡ i + 1 = omega arith in
      rw (drop-cons rs i d m, z, s)

  -- a turn of the scan
  pub over_step : (v : Option Entry) {v' w : Option Entry} {r : Row} (d : Row) (i to : ℕ) → i < to → to ≤ length rs → v' ≡ or_row v r → r ≡ get_or rs i d → greatest_over v (part i to rs) ≡ w
      → greatest_over v' (part (i + 1) to rs) ≡ w
  over_step v d i to l h e f q = ap (λ (o : Option Entry). greatest_over o (part (i + 1) to rs)) (e ∙ ap (or_row v) f) ∙ sym (over_more v i to d l h) ∙ q

-- ---- the key of a row

pub key-read : (r : Row) {x : Key} → x ≡ record { kind = kind_is (r.bits % 2); hash = quad_number r.hash } → x ≡ key_at r
unfolding key_at
key-read r q = q
