-- How many bytes an element of a list has at least, its commas counted.
use Prim.Native.Nat.{ℕ, suc, ◌+◌, ◌^◌, ◌≤◌}
use mathlib.Core.Path.{◌≡◌, refl}
use mathlib.Core.List.{List, [], ◌∷◌}
use mathlib.Core.Option.{Option, none, some}
use native.Mathlib.Omega.{arith}
use lib.Dec.{eqb}
use lib.ListN.{length, drop, length-drop}
use Rattle.ident.specs.declared.Kind.{Kind}
use Rattle.ident.specs.declared.ItemKind.{ItemKind}
use Rattle.ident.specs.Number.{Key, Item, top}
use Rattle.machine.proofs.Tests.{by_test}
use Rattle.machine.specs.Fields.{number_of, hash_of, kind_of, key_with, key_of, item_with, letter_kind, other_kind, type_of, before, behind, item_of, taking}
use Rattle.reading.specs.Lists.{offer_of, offer_then}
use Rattle.reading.proofs.Bytes.{numeral_some}
use Rattle.reading.specs.Given.{Takes}
use Rattle.reading.proofs.Elements.{takes_field}

-- a comma and a digit
pub number-takes : Takes (taking number_of) 2
number-takes = takes_field number_of (λ f x g. omega (arith, numeral_some 10 (2 ^ 64) f x g))

-- ---- a comma, a letter and a digit

hash_some : (f : List ℕ) (h : ℕ) → hash_of f ≡ some h → 1 ≤ length f
hash_some f h g = numeral_some 16 top f h g

-- what has a hash has its digits
key-hash : (f : List ℕ) (d : Option Kind) (h : Option ℕ) (k : Key) → ((x : ℕ) → h ≡ some x → 1 ≤ length f) → key_with d h ≡ some k → 1 ≤ length f
key-hash f none h k t g = let z : ◌≡◌ {A = ℕ} 0 1 = cc in absurd (omega arith)
key-hash f (some d) none k t g = let z : ◌≡◌ {A = ℕ} 0 1 = cc in absurd (omega arith)
key-hash f (some d) (some h) k t g = t h refl

item-hash : (f : List ℕ) (d : Option ItemKind) (h : Option ℕ) (i : Item) → ((x : ℕ) → h ≡ some x → 1 ≤ length f) → item_with d h ≡ some i → 1 ≤ length f
item-hash f none h i t g = let z : ◌≡◌ {A = ℕ} 0 1 = cc in absurd (omega arith)
item-hash f (some d) none i t g = let z : ◌≡◌ {A = ℕ} 0 1 = cc in absurd (omega arith)
item-hash f (some d) (some h) i t g = t h refl

key_some : (f : List ℕ) (k : Key) → key_of f ≡ some k → 2 ≤ length f
unfolding key_of
key_some [] k g = let z : ◌≡◌ {A = ℕ} 0 1 = cc in absurd (omega arith)
key_some (c ∷ f) k g = omega (arith, key-hash f (kind_of c) (hash_of f) k (hash_some f) g)

behind_some : (f : List ℕ) (h : ℕ) → hash_of (behind 58 f) ≡ some h → 1 ≤ length f
unfolding behind
behind_some f h g = omega (arith, hash_some (drop (length (before 58 f) + 1) f) h g, length-drop (length (before 58 f) + 1) f)

item_some : (f : List ℕ) (i : Item) → item_of f ≡ some i → 2 ≤ length f
unfolding item_of
item_some [] i g = let z : ◌≡◌ {A = ℕ} 0 1 = cc in absurd (omega arith)
item_some (c ∷ f) i g =
    by_test (λ (o : Option Item). o ≡ some i → 2 ≤ suc (length f)) (eqb c 111)
    (λ t e. omega (arith, item-hash f (other_kind (type_of (before 58 f))) (hash_of (behind 58 f)) i (behind_some f) e))
    (λ t e. omega (arith, item-hash f (letter_kind c) (hash_of f) i (hash_some f) e))
    g

pub key-takes : Takes (taking key_of) 3
key-takes = takes_field key_of (λ f k g. omega (arith, key_some f k g))

pub item-takes : Takes (taking item_of) 3
item-takes = takes_field item_of (λ f i g. omega (arith, item_some f i g))

-- an item and a number
pub offer-takes : Takes offer_then 5
unfolding offer_then
offer-takes = record { is = λ k fs g. item-takes.is _ fs (λ i gs h. number-takes.is _ gs (λ p hs j. g (offer_of i p) hs (omega (arith, h, j)))) }
