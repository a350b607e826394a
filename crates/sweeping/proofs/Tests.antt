-- `==` on the keys of two rows, and whether a row is the last of its key.
use Prim.Native.Nat.{ℕ, ◌≤◌, ◌<◌}
use mathlib.Core.Path.{◌≡◌, refl, sym, ap, ◌∙◌}
use mathlib.Core.Logic.{inl, inr}
use mathlib.Core.Bool.{Bool, true, not}
use mathlib.Core.List.{List}
use native.Mathlib.Omega.{arith}
use lib.Dec.{eqb}
use lib.ListN.{length, get_or}
use borrow.Author.Tests.{eqb-true, eqb-false, eq-eqb}
use Rattle.ident.specs.declared.Kind.{Kind}
use Rattle.ident.specs.declared.Kind.TheVariants.{Txid, Wtxid}
use Rattle.ident.specs.contracts.KindPartialEq.TheImpl.{eq-value as kind_eq}
use Rattle.ident.specs.Number.{place, kind_number}
use Rattle.regions.specs.declared.Row.{Row}
use Rattle.regions.specs.declared.Key.{Key as RowKey}
use Rattle.regions.specs.contracts.KeyPartialEq.TheImpl.{eq-value as key_eq}
use Rattle.regions.specs.Rows.{key_number, key_of}
use Rattle.regions.proofs.Order.{Small}
use Rattle.words.specs.Words.{number}
use Rattle.machine.proofs.Tests.{test, never, and_left, and_right}
use Rattle.store.specs.Gather.{key_at}
use Rattle.store.proofs.Keys.{row_number}
use Rattle.announcing.specs.Evicts.{part}
use Rattle.sweeping.specs.Batches.{last_row}
use Rattle.sweeping.proofs.Rounds.{part_more, part_none}

same_kind : (k j : Kind) → kind_number k ≡ kind_number j → kind_eq.it k j ≡ true
same_kind Txid Txid e = refl
same_kind Txid Wtxid e = absurd (omega (arith, e))
same_kind Wtxid Txid e = absurd (omega (arith, e))
same_kind Wtxid Wtxid e = refl

kinds_same : (k j : Kind) → kind_eq.it k j ≡ true → k ≡ j
kinds_same Txid Txid e = refl
kinds_same Txid Wtxid e = never e
kinds_same Wtxid Txid e = never e
kinds_same Wtxid Wtxid e = refl

-- `==` on the keys of rows is that of their numbers
one_number : (a b : RowKey) → Small a.hash → Small b.hash → key_eq.it a b ≡ eqb (key_number a) (key_number b)
unfolding key_number number
one_number a b p q = elim (test (eqb (key_number a) (key_number b))) [
  | inl t ↦
      let e = eqb-true (key_number a) (key_number b) t in
      rw (
        t,
        same_kind a.kind b.kind (omega (arith, e, p, q)),
        eq-eqb a.hash.w3 b.hash.w3 (omega (arith, e, p, q)),
        eq-eqb a.hash.w2 b.hash.w2 (omega (arith, e, p, q)),
        eq-eqb a.hash.w1 b.hash.w1 (omega (arith, e, p, q)),
        eq-eqb a.hash.w0 b.hash.w0 (omega (arith, e, p, q)),
      ) refl
  | inr t ↦ elim (test (key_eq.it a b)) [
    | inl u ↦ absurd (eqb-false (key_number a) (key_number b) t (whole u))
    | inr u ↦ u ∙ sym t
  ]
]
  where
    whole : key_eq.it a b ≡ true → key_number a ≡ key_number b
    whole u =
        let k = kinds_same a.kind b.kind (and_left (kind_eq.it a.kind b.kind) _ u) in
        let r₃ = and_right (kind_eq.it a.kind b.kind) _ u in
        let r₂ = and_right (eqb a.hash.w3 b.hash.w3) _ r₃ in
        let r₁ = and_right (eqb a.hash.w2 b.hash.w2) _ r₂ in
        let r₀ = and_right (eqb a.hash.w1 b.hash.w1) _ r₁ in
        rw (
          k,
          eqb-true a.hash.w3 b.hash.w3 (and_left _ _ r₃),
          eqb-true a.hash.w2 b.hash.w2 (and_left _ _ r₂),
          eqb-true a.hash.w1 b.hash.w1 (and_left _ _ r₁),
          eqb-true a.hash.w0 b.hash.w0 r₀,
        ) refl

pub same_row_key : (a b : Row) {x y : RowKey} → x ≡ key_of a → y ≡ key_of b → Small a.hash → Small b.hash
    → key_eq.it x y ≡ eqb (place (key_at a)) (place (key_at b))
same_row_key a b ex ey p q = rw (ex, ey) (one_number (key_of a) (key_of b) p q ∙ rw (row_number a, row_number b) refl)

module _ (r : Row) (rs : List Row) (j to : ℕ) where
  pub ends_at : j ≡ to → true ≡ last_row r (part j to rs)
  unfolding last_row
  ends_at e = rw (part_none rs j to (omega arith))

  pub ends-before : (q : Row) {b d : Bool} → j < to → to ≤ length rs → q ≡ get_or rs j q → d ≡ not b → b ≡ eqb (place (key_at r)) (place (key_at q)) → d ≡ last_row r (part j to rs)
  unfolding last_row
  ends-before q l h e n d = n ∙ ap not d ∙ rw (part_more rs j to q l h, ← e)
