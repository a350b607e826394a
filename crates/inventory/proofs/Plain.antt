-- An item of a line is none of the three kinds under another type's number.
use Prim.Native.Nat.{ℕ, ◌+◌}
use mathlib.Core.Path.{◌≡◌, refl, sym, ap, ◌∙◌}
use mathlib.Core.Bool.{Bool, true, false}
use mathlib.Core.Logic.{⊎_elim}
use mathlib.Core.List.{List, [], ◌∷◌}
use mathlib.Core.Option.{Option, none, some}
use native.Mathlib.Omega.{arith}
use lib.Dec.{eqb}
use Rattle.ident.specs.declared.ItemKind.{ItemKind}
use Rattle.ident.specs.declared.ItemKind.TheVariants.{Transaction, WitnessTransaction, WTx, Other}
use Rattle.std.specs.Prelude.{if◌then◌else◌}
use Rattle.ident.specs.Number.{Item, is_plain}
use Rattle.machine.specs.Call.{Open}
use Rattle.machine.proofs.Tests.{test, by_test}
use Rattle.machine.specs.Fields.{item_with, letter_kind, other_kind, type_of, hash_of, before, behind, item_of, rest, with_value, taking}
use Rattle.reading.specs.Line.{Line, Asks}
use Rattle.reading.specs.Given.{At, FieldRead}
use Rattle.reading.proofs.Taking.{field_is}

-- a call for an item that is not plain
abbrev odd : ItemKind → Option Line
odd k = if is_plain k then none else some (Asks (Open 0 0))

abbrev chosen : Bool → Option Line
chosen b = if b then none else some (Asks (Open 0 0))

abbrev odd_item : Option Item → Option Line
odd_item o = with_value o (λ i. odd i.kind)

plain_with : (k : ItemKind) (h : Option ℕ) → is_plain k ≡ true → odd_item (item_with (some k) h) ≡ none
plain_with k none e = refl
plain_with k (some h) e = ap chosen e

other_plain : (t h : Option ℕ) → odd_item (item_with (other_kind t) h) ≡ none
other_plain none h = refl
other_plain (some n) h =
    ⊎_elim (λ e. ap (λ (b : Bool). odd_item (item_with (if b then some (Other n) else none) h)) e ∙ plain_with (Other n) h e)
    (λ e. ap (λ (b : Bool). odd_item (item_with (if b then some (Other n) else none) h)) e)
    (test (is_plain (Other n)))

letter-plain : (c : ℕ) (h : Option ℕ) → odd_item (item_with (letter_kind c) h) ≡ none
letter-plain c h =
    by_test (λ (k : Option ItemKind). odd_item (item_with k h) ≡ none) (eqb c 116) (λ e. plain_with Transaction h refl) (λ e.
    by_test (λ (k : Option ItemKind). odd_item (item_with k h) ≡ none) (eqb c 118) (λ e. plain_with WitnessTransaction h refl) (λ e.
    by_test (λ (k : Option ItemKind). odd_item (item_with k h) ≡ none) (eqb c 119) (λ e. plain_with WTx h refl) (λ e. refl)))

item-plain : (f : List ℕ) → odd_item (item_of f) ≡ none
unfolding item_of
item-plain [] = refl
item-plain (c ∷ f) = by_test (λ (o : Option Item). odd_item o ≡ none) (eqb c 111) (λ e. other_plain (type_of (before 58 f)) (hash_of (behind 58 f))) (λ e. letter-plain c (hash_of f))

none_odd : (fs : List (List ℕ)) → taking item_of (λ i fs. odd i.kind) fs ≡ none
unfolding taking
none_odd [] = refl
none_odd (f ∷ fs) = item-plain f

some_not_none : (c : Line) → some c ≡ none → ⊥
some_not_none c e = let z : ◌≡◌ {A = ℕ} 0 1 = cc in omega arith

plain_if : (b : Bool) → chosen b ≡ none → b ≡ true
plain_if true g = refl
plain_if false g = absurd (some_not_none (Asks (Open 0 0)) g)

not_odd : (k : ItemKind) → odd k ≡ none → is_plain k ≡ true
not_odd k g = plain_if (is_plain k) g

pub plain-item : {l : List ℕ} {e : ℕ} {o : Option (At Item)} {a : At Item} → FieldRead item_of l e o → o ≡ some a → is_plain a.value.kind ≡ true
plain-item {l} {e} {o} {a} p g = not_odd a.value.kind (sym (field_is p (λ i fs. odd i.kind) g) ∙ none_odd (rest l (e + 1)))
