-- `==` on the keys of rows tells that they are the same.
use mathlib.Core.Path.{◌≡◌, refl}
use mathlib.Core.Bool.{true}
use borrow.Author.Tests.{eqb-true}
use Rattle.std.proofs.lemmas.Bool.{and_parts}
use Rattle.ident.specs.declared.Kind.{Kind}
use Rattle.ident.specs.declared.Kind.TheVariants.{Txid, Wtxid}
use Rattle.ident.specs.contracts.KindPartialEq.TheImpl.{eq-value as kind_eq}
use Rattle.regions.specs.declared.Key.{Key}
use Rattle.regions.specs.contracts.KeyPartialEq.TheImpl.{eq-value}

same_kinds : (k j : Kind) → kind_eq.it k j ≡ true → k ≡ j
same_kinds Txid Txid e = refl
same_kinds Txid Wtxid e = absurd (mathlib.Core.Bool.false≢true e)
same_kinds Wtxid Txid e = absurd (mathlib.Core.Bool.false≢true e)
same_kinds Wtxid Wtxid e = refl

pub same_keys : (a b : Key) → eq-value.it a b ≡ true → a ≡ b
same_keys a b e =
    let x = and_parts _ _ e in
    let y₃ = and_parts _ _ x.1 in
    let y₂ = and_parts _ _ y₃.1 in
    let y₁ = and_parts _ _ y₂.1 in
    let k = same_kinds a.kind b.kind x.0 in
    let w₃ = eqb-true a.hash.w3 b.hash.w3 y₃.0 in
    let w₂ = eqb-true a.hash.w2 b.hash.w2 y₂.0 in
    let w₁ = eqb-true a.hash.w1 b.hash.w1 y₁.0 in
    let w₀ = eqb-true a.hash.w0 b.hash.w0 y₁.1 in
    λ i. record { kind = k i; hash = record { w3 = w₃ i; w2 = w₂ i; w1 = w₁ i; w0 = w₀ i } }
