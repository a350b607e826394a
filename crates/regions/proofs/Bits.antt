-- A row's bits as its methods give them, and as numbers.
use Prim.Native.Nat.{ℕ, zero, suc, ◌-◌, ◌%◌, ◌<◌}
use mathlib.Core.Path.{◌≡◌, refl, sym, ap, ◌∙◌}
use mathlib.Core.Bool.{Bool, true, false, not, beq}
use native.Mathlib.Omega.{arith}
use lib.Dec.{eqb}
use borrow.Author.Tests.{eqb-true, eqb-false}
use mir.Val.{bool_byte}
use Rattle.ident.specs.declared.Kind.{Kind}
use Rattle.ident.specs.declared.Kind.TheVariants.{Txid, Wtxid}
use Rattle.ident.specs.contracts.KindPartialEq.TheImpl.{eq-value}
use Rattle.ident.specs.Number.{kind_number, kind_is}

-- a number below 2, whatever it is
two : (m : ℕ) → m < 2 → bool_byte (eqb m 1) ≡ m
two zero h = refl
two (suc zero) h = refl
two (suc (suc m)) h = absurd (omega (arith, h))

pub bit_number : (n : ℕ) → bool_byte (eqb (n % 2) 1) ≡ n % 2
bit_number n = two (n % 2) (omega arith)

-- what a caller reads that makes the test a number
pub as_bit : (n : ℕ) {b : Bool} {m : ℕ} → m ≡ bool_byte b → b ≡ eqb (n % 2) 1 → m ≡ n % 2
as_bit n e f = e ∙ ap bool_byte f ∙ bit_number n

kind_two : (m : ℕ) → m < 2 → kind_number (kind_is m) ≡ m
kind_two zero h = refl
kind_two (suc zero) h = refl
kind_two (suc (suc m)) h = absurd (omega (arith, h))

pub bit_kind : (n : ℕ) → kind_number (kind_is (n % 2)) ≡ n % 2
bit_kind n = kind_two (n % 2) (omega arith)

-- a kind compared with one of the two
txid_two : (m : ℕ) → m < 2 → eq-value.it (kind_is m) Txid ≡ eqb m 0
txid_two zero h = refl
txid_two (suc zero) h = refl
txid_two (suc (suc m)) h = absurd (omega (arith, h))

pub is_txid : (n : ℕ) → eq-value.it (kind_is (n % 2)) Txid ≡ eqb (n % 2) 0
is_txid n = txid_two (n % 2) (omega arith)

wtxid_two : (m : ℕ) → m < 2 → eq-value.it (kind_is m) Wtxid ≡ eqb m 1
wtxid_two zero h = refl
wtxid_two (suc zero) h = refl
wtxid_two (suc (suc m)) h = absurd (omega (arith, h))

pub is_wtxid : (n : ℕ) → eq-value.it (kind_is (n % 2)) Wtxid ≡ eqb (n % 2) 1
is_wtxid n = wtxid_two (n % 2) (omega arith)

-- two bits are the same if their tests are
same_two : (m n : ℕ) → m < 2 → n < 2 → beq (eqb m 1) (eqb n 1) ≡ eqb m n
same_two zero zero g h = refl
same_two zero (suc zero) g h = refl
same_two (suc zero) zero g h = refl
same_two (suc zero) (suc zero) g h = refl
same_two (suc (suc m)) n g h = absurd (omega (arith, g))
same_two m (suc (suc n)) g h = absurd (omega (arith, h))

pub same_bits : (m n : ℕ) → beq (eqb (m % 2) 1) (eqb (n % 2) 1) ≡ eqb (m % 2) (n % 2)
same_bits m n = same_two (m % 2) (n % 2) (omega arith) (omega arith)

-- what a test that was taken says of its bit
pub is_one : (n : ℕ) {b : Bool} → b ≡ eqb n 1 → b ≡ true → n ≡ 1
is_one n e t = eqb-true n 1 (sym e ∙ t)

pub not_one : (n : ℕ) {b : Bool} → b ≡ eqb n 1 → b ≡ false → n ≡ 1 → ⊥
not_one n e t = eqb-false n 1 (sym e ∙ t)

-- 1 for a bit that is not set
unset_two : (m : ℕ) → m < 2 → bool_byte (not (eqb m 1)) ≡ 1 - m
unset_two zero h = refl
unset_two (suc zero) h = refl
unset_two (suc (suc m)) h = absurd (omega (arith, h))

pub as_unset : (n : ℕ) {b : Bool} {m : ℕ} → m ≡ bool_byte (not b) → b ≡ eqb (n % 2) 1 → m ≡ 1 - n % 2
as_unset n e f = e ∙ ap (λ (b : Bool). bool_byte (not b)) f ∙ unset_two (n % 2) (omega arith)

pub told_txid : (n : ℕ) {k : Kind} {b : Bool} → k ≡ kind_is (n % 2) → b ≡ eq-value.it k Txid → b ≡ eqb (n % 2) 0
told_txid n {k} {b} e f = f ∙ ap (λ (j : Kind). eq-value.it j Txid) e ∙ is_txid n
