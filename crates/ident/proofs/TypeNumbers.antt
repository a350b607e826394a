-- The kinds of items and their type numbers: one decides the other.
use mathlib.Core.Path.{◌≡◌, refl, sym, subst}
use Prim.Native.Nat.{ℕ}
use mathlib.Core.Bool.{Bool, true, false}
use mathlib.Core.Logic.{⊎_elim}
use native.Mathlib.Omega.{arith}
use lib.Dec.{eqb}
use borrow.Author.Tests.{eqb-true, eqb-false, ne_eqb}
use Rattle.ident.specs.declared.ItemKind.{ItemKind}
use Rattle.ident.specs.declared.ItemKind.TheVariants.{Transaction, WitnessTransaction, WTx, Other}
use Rattle.ident.specs.Number.{type_of, item_kind_of, is_plain}
use Rattle.ident.proofs.Compare.{either}

-- none of the three numbers
pub record Apart (n : ℕ) : Type 0 where
  pub no-t : n ≡ type_of Transaction → ⊥
  pub no-v : n ≡ type_of WitnessTransaction → ⊥
  pub no-w : n ≡ type_of WTx → ⊥

pub apart-kind : (n : ℕ) → Apart n → item_kind_of n ≡ Other n
apart-kind n a = simp (ne_eqb n _ a.no-t, ne_eqb n _ a.no-v, ne_eqb n _ a.no-w)

pub apart-plain : (n : ℕ) → Apart n → is_plain (Other n) ≡ true
apart-plain n a = simp (ne_eqb n _ a.no-t, ne_eqb n _ a.no-v, ne_eqb n _ a.no-w)

-- what holds of the three numbers and of every other holds of each number
by_number : (P : ℕ → Type 0) → P (type_of Transaction) → P (type_of WitnessTransaction) → P (type_of WTx) → ((n : ℕ) → Apart n → P n) → (n : ℕ) → P n
by_number P t v w o n =
    ⊎_elim (λ e. subst P (sym (eqb-true n _ e)) t) (λ a.
    ⊎_elim (λ e. subst P (sym (eqb-true n _ e)) v) (λ b.
    ⊎_elim (λ e. subst P (sym (eqb-true n _ e)) w) (λ c. o n (record { no-t = eqb-false n _ a; no-v = eqb-false n _ b; no-w = eqb-false n _ c }))
    (either (eqb n (type_of WTx)))) (either (eqb n (type_of WitnessTransaction)))) (either (eqb n (type_of Transaction)))

-- "never one of those three": a type number gives an item's kind
pub kind-plain : (n : ℕ) → is_plain (item_kind_of n) ≡ true
kind-plain = by_number (λ n. is_plain (item_kind_of n) ≡ true) refl refl refl (λ n a. rw (apart-kind n a) (apart-plain n a))

pub type-kind : (n : ℕ) → type_of (item_kind_of n) ≡ n
type-kind = by_number (λ n. type_of (item_kind_of n) ≡ n) refl refl refl (λ n a. rw (apart-kind n a))

pub kind-type : (k : ItemKind) → is_plain k ≡ true → item_kind_of (type_of k) ≡ k
kind-type Transaction e = refl
kind-type WitnessTransaction e = refl
kind-type WTx e = refl
kind-type (Other n) e = by_number (λ n. is_plain (Other n) ≡ true → item_kind_of n ≡ Other n) (λ e. never e) (λ e. never e) (λ e. never e) (λ n a _. apart-kind n a) n e
  where
    never : {A : Type 0} → ◌≡◌ {A = Bool} false true → A
    never e = let z : ◌≡◌ {A = ℕ} 0 1 = cc in absurd (omega arith)
