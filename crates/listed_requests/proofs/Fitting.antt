-- Hashes compared word by word, and whether one candidate more fits.
use mathlib.Core.Path.{◌≡◌, refl, sym, ap, ◌∙◌}
use mathlib.Core.Bool.{Bool, true, false, ◌&&◌}
use mathlib.Core.List.{List, [], ◌∷◌, ◌++◌}
use mathlib.Core.Logic.{inl, inr}
use lib.Dec.{eqb}
use borrow.Author.Tests.{eqb-true, eq-eqb}
use Rattle.ident.specs.Number.{Key}
use Rattle.regions.specs.declared.Quad.{Quad}
use Rattle.regions.specs.Rows.{quad_number, quad_of}
use Rattle.regions.proofs.Order.{Small, quad-number, quad_four}
use Rattle.machine.specs.State.{Candidate}
use Rattle.machine.specs.SoundTest.{fits, all_fit}
use Rattle.machine.proofs.Tests.{test}

-- as the derived `==` compares them
pub same_words : (a b : Quad) → Small a → Small b
    → (eqb a.w3 b.w3 && (eqb a.w2 b.w2 && (eqb a.w1 b.w1 && eqb a.w0 b.w0))) ≡ eqb (quad_number a) (quad_number b)
same_words a b p q = elim (test (eqb (quad_number a) (quad_number b))) [
  | inl e ↦
      let d : a ≡ b = sym (quad-number a p) ∙ ap quad_of (eqb-true _ _ e) ∙ quad-number b q in
      rw (
        e,
        eq-eqb a.w3 b.w3 (ap (λ (x : Quad). x.w3) d),
        eq-eqb a.w2 b.w2 (ap (λ (x : Quad). x.w2) d),
        eq-eqb a.w1 b.w1 (ap (λ (x : Quad). x.w1) d),
        eq-eqb a.w0 b.w0 (ap (λ (x : Quad). x.w0) d),
      )
  | inr e ↦ rw e (differ (λ d₃ d₂ d₁ d₀. absurd (apart e (alike d₃ d₂ d₁ d₀))))
]
  where
    alike : a.w3 ≡ b.w3 → a.w2 ≡ b.w2 → a.w1 ≡ b.w1 → a.w0 ≡ b.w0 → quad_number a ≡ quad_number b
    alike d₃ d₂ d₁ d₀ = quad_four a ∙ rw (d₃, d₂, d₁, d₀) (sym (quad_four b))

    apart : eqb (quad_number a) (quad_number b) ≡ false → quad_number a ≡ quad_number b → ⊥
    apart e d = let t = eq-eqb _ _ d in cc

    differ : (a.w3 ≡ b.w3 → a.w2 ≡ b.w2 → a.w1 ≡ b.w1 → a.w0 ≡ b.w0 → ⊥) → (eqb a.w3 b.w3 && (eqb a.w2 b.w2 && (eqb a.w1 b.w1 && eqb a.w0 b.w0))) ≡ false
    differ n = elim (test (eqb a.w3 b.w3)) [
      | inr f ↦ rw f
      | inl f₃ ↦ elim (test (eqb a.w2 b.w2)) [
        | inr f ↦ rw (f₃, f)
        | inl f₂ ↦ elim (test (eqb a.w1 b.w1)) [
          | inr f ↦ rw (f₃, f₂, f)
          | inl f₁ ↦ elim (test (eqb a.w0 b.w0)) [
            | inr f ↦ rw (f₃, f₂, f₁, f)
            | inl f₀ ↦ absurd (n (eqb-true _ _ f₃) (eqb-true _ _ f₂) (eqb-true _ _ f₁) (eqb-true _ _ f₀))
          ]
        ]
      ]
    ]

-- ---- one more

pub all_fit_none : (k : Key) → true ≡ all_fit k []
unfolding all_fit
all_fit_none k = refl

pub all_fit_more : (k : Key) (cs : List Candidate) (c : Candidate) → all_fit k (cs ++ (c ∷ [])) ≡ (all_fit k cs && fits k c)
unfolding all_fit
all_fit_more k [] c = last (fits k c)
  where
    last : (x : Bool) → (x && true) ≡ (true && x)
    last true = refl
    last false = refl
all_fit_more k (d ∷ cs) c = ap (λ (x : Bool). fits k d && x) (all_fit_more k cs c) ∙ sym (grouped (fits k d) (all_fit k cs) (fits k c))
  where
    grouped : (a b x : Bool) → ((a && b) && x) ≡ (a && (b && x))
    grouped true b x = refl
    grouped false b x = refl
