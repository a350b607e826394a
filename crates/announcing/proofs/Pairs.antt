-- Rows compared by key and connection: the derived order of the two, one after the other.
use Prim.Native.Nat.{ℕ}
use mathlib.Core.Path.{◌≡◌, refl, sym, ap, ◌∙◌}
use mathlib.Core.Bool.{Bool, true, false}
use lib.Dec.{ltb}
use Rattle.std.specs.Prelude.{Option, Some, if◌then◌else◌}
use Rattle.std.specs.declared.cmp.Ordering.{Ordering}
use Rattle.std.specs.declared.cmp.Ordering.TheVariants.{Less, Equal, Greater}
use Rattle.std.specs.Ordering.{nat_cmp, ordering_reverse, is_lt, is_some_and, partial_ordering_then}
use Rattle.regions.specs.declared.Row.{Row}
use Rattle.regions.specs.declared.Key.{Key}
use Rattle.regions.specs.contracts.KeyPartialOrd.TheImpl as KeyPartialOrder
use Rattle.regions.specs.contracts.KeyOrd.TheImpl as KeyOrder
use Rattle.regions.specs.contracts.KeyOrd.TheImpl.Laws.{total-law, matches_partial_cmp-law}
use Rattle.regions.specs.Rows.{key_number, key_of}
use Rattle.regions.proofs.Less.{keys_less, last}
use Rattle.regions.proofs.Order.{Small}
use Rattle.store.proofs.Keys.{row_number}
use Rattle.announcing.specs.Evicts.{key_after}

-- by an order, then by number
then_by : (m n : ℕ) (o : Ordering) {x y : Bool} → is_lt (ordering_reverse o) ≡ x → is_lt o ≡ y
    → is_some_and is_lt (partial_ordering_then (Some (ordering_reverse o)) (Some (nat_cmp m n))) ≡ (if x then true else if y then false else ltb m n)
then_by m n Less ex ey = rw (← ex, ← ey) refl
then_by m n Equal ex ey = rw (← ex, ← ey) (last m n)
then_by m n Greater ex ey = rw (← ex) refl

module _ (a b : Key) (p : Small a.hash) (q : Small b.hash) where
  back : (KeyPartialOrder.ghosts).partial_cmp a b ≡ Some (ordering_reverse ((KeyOrder.ghosts).cmp b a))
  back = matches_partial_cmp-law a b ∙ ap (λ (o : Ordering). Some o) (total-law.antisymm a b)

  pub pairs_less : (m n : ℕ) → is_some_and is_lt (partial_ordering_then ((KeyPartialOrder.ghosts).partial_cmp a b) (Some (nat_cmp m n)))
      ≡ (if ltb (key_number a) (key_number b) then true else if ltb (key_number b) (key_number a) then false else ltb m n)
  pairs_less m n =
      ap (λ (o : Option Ordering). is_some_and is_lt (partial_ordering_then o (Some (nat_cmp m n)))) back
      ∙ then_by m n ((KeyOrder.ghosts).cmp b a) (ap (λ (o : Option Ordering). is_some_and is_lt o) (sym back) ∙ keys_less a b p q)
      (ap (λ (o : Option Ordering). is_some_and is_lt o) (sym (matches_partial_cmp-law b a)) ∙ keys_less b a q p)

pub rows_after : (a b : Row) → Small a.hash → Small b.hash
    → is_some_and is_lt (partial_ordering_then ((KeyPartialOrder.ghosts).partial_cmp (key_of b) (key_of a)) (Some (nat_cmp b.conn a.conn))) ≡ key_after a b
rows_after a b p q = pairs_less (key_of b) (key_of a) q p b.conn a.conn ∙ rw (row_number a, row_number b) refl
