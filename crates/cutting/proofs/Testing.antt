-- The test of one row, and that the rows that go are those of one connection, none of which owns its request.
use Prim.Native.Nat.{ℕ}
use mathlib.Core.Path.{◌≡◌, refl, sym, ap, ◌∙◌}
use mathlib.Core.Logic.{inl, inr}
use mathlib.Core.Bool.{Bool, true, false, not}
use native.Mathlib.Omega.{arith}
use lib.Dec.{eqb}
use borrow.Author.Tests.{eqb-true, eqb-false, eq-eqb, ne_eqb, not-false as gone}
use Rattle.ident.specs.Number.{Key, place}
use Rattle.regions.specs.declared.Row.{Row}
use Rattle.regions.specs.declared.Key.{Key as RowKey}
use Rattle.regions.specs.Rows.{key_number, key_of as row_key_of}
use Rattle.machine.proofs.Tests.{test, never, and_left, and_right}
use Rattle.store.specs.Flat.{own_bit}
use Rattle.store.specs.FlatSound.{owns}
use Rattle.store.proofs.Keys.{row_number}
use Rattle.cutting.specs.Cuts.{between, row_key_in, row_in, stays, remains}
use Rattle.cutting.proofs.Lessening.{Idle}

-- a row of zeros
abbrev pub none : Row
none = record { hash = record { w0 = 0; w1 = 0; w2 = 0; w3 = 0 }; conn = 0; ready = 0; prio = 0; deadline = 0; bits = 0 }

-- ---- as the code tests

module _ (r : Row) (n : ℕ) (from to : RowKey) where
  module _ (e : r.conn ≡ n) {o : Bool} (d : o ≡ owns r) where
    pub its_own : not o ≡ true → {w : Bool} → w ≡ row_key_in from to (row_key_of r) → w ≡ row_in n from to r
    its_own z f = rw (eq-eqb r.conn n e, ap not (sym d) ∙ z) f

    pub owned : {v : Bool} → v ≡ not o → v ≡ false → v ≡ row_in n from to r
    owned x z = z ∙ rw (eq-eqb r.conn n e, ap not (sym d) ∙ sym x ∙ z) refl

  pub anothers : (r.conn ≡ n → ⊥) → false ≡ row_in n from to r
  anothers e = rw (ne_eqb r.conn n e)

-- ---- what goes

went : (n : ℕ) (from to : RowKey) (r : Row) → stays n from to r ≡ false → row_in n from to r ≡ true
went n from to r = gone (row_in n from to r)

pub idle : (n : ℕ) (from to : RowKey) → Idle (stays n from to) n
idle n from to = record {
  conn = λ r e. eqb-true r.conn n (and_left (eqb r.conn n) _ (went n from to r e));
  own = λ r e. unowned r (and_left (not (owns r)) _ (and_right (eqb r.conn n) _ (went n from to r e)));
}
  where
    unowned : (r : Row) → not (owns r) ≡ true → own_bit r ≡ 0
    unowned r e = elim (test (eqb (own_bit r) 1)) [
      | inl z ↦ absurd (clash (owns r) z e)
      | inr z ↦ let m = eqb-false (own_bit r) 1 z in omega arith
    ]
      where
        clash : (b : Bool) → b ≡ true → not b ≡ true → ⊥
        clash true p q = never q
        clash false p q = never p

-- ---- the same, of the machine's keys

pub stays_between : (n : ℕ) (a b : Key) (from to : RowKey) → key_number from ≡ place a → key_number to ≡ place b → (r : Row) → stays n from to r ≡ remains n (between a b) r
stays_between n a b from to e f r = rw (row_number r, e, f)
