-- A row's bits as regions makes them of what they say, and as `row_of` has them.
use Prim.Native.Nat.{ℕ, zero, suc, ◌%◌, ◌<◌}
use mathlib.Core.Path.{◌≡◌, refl, ◌∙◌}
use mathlib.Core.Bool.{Bool, true, false}
use native.Mathlib.Omega.{arith}
use lib.Dec.{eqb}
use Rattle.ident.specs.declared.Kind.{Kind}
use Rattle.ident.specs.declared.ItemKind.{ItemKind}
use Rattle.ident.specs.declared.ItemKind.TheVariants.{Transaction, WitnessTransaction, WTx, Other}
use Rattle.ident.specs.contracts.ItemKindPartialEq.TheImpl.{eq-value as item_kind_eq}
use Rattle.regions.specs.Packed.{bit, bits_number}
use Rattle.machine.specs.Table.{one}
use Rattle.store.specs.Flat.{witness_bit, bits_of}

bit_as_one : (b : Bool) → bit b ≡ one b
bit_as_one true = refl
bit_as_one false = refl

pub packed : (k : Kind) (w p o m : Bool) {n v : ℕ} → n ≡ bits_number (record { kind = k; witness = w; preferred = p; owns = o; mark = m }) → bit w ≡ v → n ≡ bits_of k v p o m
packed k w p o m e f = e ∙ rw (f, bit_as_one p, bit_as_one o, bit_as_one m) refl

-- a test's bit
pub witness-is : (k : ItemKind) → bit (item_kind_eq.it k WitnessTransaction) ≡ witness_bit k
witness-is Transaction = refl
witness-is WitnessTransaction = refl
witness-is WTx = refl
witness-is (Other n) = refl

two : (m : ℕ) → m < 2 → bit (eqb m 1) ≡ m
two zero h = refl
two (suc zero) h = refl
two (suc (suc m)) h = absurd (omega (arith, h))

pub bit-is : (n : ℕ) → bit (eqb (n % 2) 1) ≡ n % 2
bit-is n = two (n % 2) (omega arith)
