-- Keys of rows in a span: `contains` of a range of them, by their numbers.
use mathlib.Core.Path.{◌≡◌, refl, sym, ap, ◌∙◌}
use mathlib.Core.Bool.{Bool, not, ◌&&◌}
use lib.Dec.{ltb}
use Rattle.std.specs.Prelude.{Option, Some}
use Rattle.std.specs.declared.cmp.Ordering.{Ordering}
use Rattle.std.specs.declared.cmp.Ordering.TheVariants.{Less, Equal, Greater}
use Rattle.std.specs.Ordering.{ordering_reverse, is_lt, is_le, is_some_and, partial_le}
use Rattle.regions.specs.declared.Key.{Key}
use Rattle.regions.specs.contracts.KeyPartialOrd.TheImpl as KeyPartialOrder
use Rattle.regions.specs.contracts.KeyOrd.TheImpl as KeyOrder
use Rattle.regions.specs.contracts.KeyOrd.TheImpl.Laws.{total-law, matches_partial_cmp-law}
use Rattle.regions.specs.Rows.{key_number}
use Rattle.regions.proofs.Less.{keys_less}
use Rattle.regions.proofs.Order.{Small}
use Rattle.cutting.specs.Cuts.{row_key_in}

back : (o : Ordering) {x : Bool} → is_lt o ≡ x → is_le (ordering_reverse o) ≡ not x
back Less e = rw (← e) refl
back Equal e = rw (← e) refl
back Greater e = rw (← e) refl

keys_upto : (a b : Key) → Small a.hash → Small b.hash → partial_le (KeyPartialOrder.ghosts).partial_cmp a b ≡ not (ltb (key_number b) (key_number a))
keys_upto a b p q =
    ap (λ (o : Option Ordering). is_some_and is_le o) (matches_partial_cmp-law a b ∙ ap (λ (o : Ordering). Some o) (total-law.antisymm a b))
    ∙ back ((KeyOrder.ghosts).cmp b a) (ap (λ (o : Option Ordering). is_some_and is_lt o) (sym (matches_partial_cmp-law b a)) ∙ keys_less b a q p)

pub within : (from to k : Key) → Small from.hash → Small to.hash → Small k.hash
    → (partial_le (KeyPartialOrder.ghosts).partial_cmp from k && partial_le (KeyPartialOrder.ghosts).partial_cmp k to) ≡ row_key_in from to k
within from to k p q r = ap (λ b. b && partial_le (KeyPartialOrder.ghosts).partial_cmp k to) (keys_upto from k p r) ∙ ap (λ b. not (ltb (key_number k) (key_number from)) && b) (keys_upto k to r q)
