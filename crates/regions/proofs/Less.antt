-- The order that is derived on hashes and keys is that of their numbers.
use Prim.Native.Nat.{ℕ}
use mathlib.Core.Path.{◌≡◌, refl, sym, ap, ◌∙◌}
use mathlib.Core.Bool.{Bool}
use mathlib.Core.Logic.{inl, inr}
use native.Mathlib.Omega.{arith}
use lib.Dec.{ltb}
use borrow.Author.Tests.{ltb-true, ltb-false, le-ltb}
use Rattle.std.specs.Prelude.{Option, Some}
use Rattle.std.specs.Cmp.{nat_cmp_is}
use Rattle.std.specs.declared.cmp.Ordering.{Ordering}
use Rattle.std.specs.declared.cmp.Ordering.TheVariants.{Less, Equal, Greater}
use Rattle.std.specs.Ordering.{nat_cmp, is_lt, is_some_and, partial_lt, partial_ordering_then}
use Rattle.ident.specs.declared.Kind.{Kind}
use Rattle.ident.specs.declared.Kind.TheVariants.{Txid, Wtxid}
use Rattle.ident.specs.Number.{kind_number}
use Rattle.regions.specs.declared.Quad.{Quad}
use Rattle.regions.specs.declared.Key.{Key}
use Rattle.regions.specs.contracts.QuadPartialOrd.TheImpl as QuadOrder
use Rattle.regions.specs.contracts.KeyPartialOrd.TheImpl as KeyOrder
use Rattle.regions.specs.Rows.{quad_number, key_number}
use Rattle.regions.proofs.Order.{Small, by_w3, by_w2, by_w1, by_w0, by_kind, by_hash, test}

-- the next digit, and where it is the same the lower ones
module _ (d e : ℕ) where
  pub next : (o : Option Ordering) {r : Bool} → ((d ≡ e → ⊥) → ltb d e ≡ r) → (d ≡ e → is_some_and is_lt o ≡ r) → is_some_and is_lt (partial_ordering_then (Some (nat_cmp d e)) o) ≡ r
  next o {r} f g =
      elim (test (ltb d e)) [
        | inl t ↦ told Less (nat_cmp_is d e Less (ltb-true d e t)) (sym t ∙ f (λ q. omega (arith, ltb-true d e t)))
        | inr t ↦
            elim (test (ltb e d)) [
              | inl u ↦ told Greater (nat_cmp_is d e Greater (ltb-true e d u)) (sym t ∙ f (λ q. omega (arith, ltb-true e d u)))
              | inr u ↦ let q : d ≡ e = omega (arith, ltb-false d e t, ltb-false e d u) in told Equal (nat_cmp_is d e Equal q) (g q)
            ]
      ]
    where
      told : (c : Ordering) → c ≡ nat_cmp d e → is_some_and is_lt (partial_ordering_then (Some c) o) ≡ r → is_some_and is_lt (partial_ordering_then (Some (nat_cmp d e)) o) ≡ r
      told c h k = ap (λ (x : Ordering). is_some_and is_lt (partial_ordering_then (Some x) o)) (sym h) ∙ k

-- the last digit
pub last : (d e : ℕ) → is_some_and is_lt (Some (nat_cmp d e)) ≡ ltb d e
last d e = ap (λ (o : Option Ordering). is_some_and is_lt o) (sym (whole (nat_cmp d e))) ∙ next d e (Some Equal) (λ _. refl) (λ q. sym (le-ltb d e (omega arith)))
  where
    whole : (c : Ordering) → partial_ordering_then (Some c) (Some Equal) ≡ Some c
    whole Less = refl
    whole Equal = refl
    whole Greater = refl

-- the digits from the top down
digits_of : Quad → Quad → Option Ordering
digits_of a b = partial_ordering_then (Some (nat_cmp a.w3 b.w3)) (partial_ordering_then (Some (nat_cmp a.w2 b.w2)) (partial_ordering_then (Some (nat_cmp a.w1 b.w1)) (Some (nat_cmp a.w0 b.w0))))

digits-less : (a b : Quad) → Small a → Small b → is_some_and is_lt (digits_of a b) ≡ ltb (quad_number a) (quad_number b)
unfolding digits_of
digits-less a b p q =
    next a.w3 b.w3 _ (by_w3 p q) (λ e₃.
    next a.w2 b.w2 _ (by_w2 p q e₃) (λ e₂.
    next a.w1 b.w1 _ (by_w1 p q e₃ e₂) (λ e₁.
    last a.w0 b.w0 ∙ by_w0 p q e₃ e₂ e₁)))

-- as the derives have it
quads-derived : (a b : Quad) → (QuadOrder.ghosts).partial_cmp a b ≡ digits_of a b
unfolding digits_of
quads-derived a b = refl

keys-derived : (a b : Key) → (KeyOrder.ghosts).partial_cmp a b ≡ partial_ordering_then (Some (nat_cmp (kind_number a.kind) (kind_number b.kind))) (digits_of a.hash b.hash)
unfolding digits_of
keys-derived a b = ranked a.kind b.kind a.hash b.hash
  where
    ranked : (k j : Kind) (g h : Quad) → (KeyOrder.ghosts).partial_cmp (record { kind = k; hash = g }) (record { kind = j; hash = h })
        ≡ partial_ordering_then (Some (nat_cmp (kind_number k) (kind_number j))) (digits_of g h)
    ranked Txid Txid g h = refl
    ranked Txid Wtxid g h = refl
    ranked Wtxid Txid g h = refl
    ranked Wtxid Wtxid g h = refl

pub quads_less : (a b : Quad) → Small a → Small b → partial_lt (QuadOrder.ghosts).partial_cmp a b ≡ ltb (quad_number a) (quad_number b)
quads_less a b p q = ap (λ (o : Option Ordering). is_some_and is_lt o) (quads-derived a b) ∙ digits-less a b p q

pub keys_less : (a b : Key) → Small a.hash → Small b.hash → partial_lt (KeyOrder.ghosts).partial_cmp a b ≡ ltb (key_number a) (key_number b)
keys_less a b p q =
    ap (λ (o : Option Ordering). is_some_and is_lt o) (keys-derived a b)
    ∙ next (kind_number a.kind) (kind_number b.kind) (digits_of a.hash b.hash) (by_kind a b p q) (λ e. by_hash a b e (digits-less a.hash b.hash p q))
