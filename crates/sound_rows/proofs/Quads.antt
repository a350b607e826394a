-- Hashes in words: equal as numbers exactly if equal word by word.
use mathlib.Core.Path.{◌≡◌, refl, sym, ap, ◌∙◌}
use mathlib.Core.Bool.{Bool, true, false, ◌&&◌}
use lib.Dec.{eqb}
use borrow.Author.Tests.{eqb-true, eq-eqb}
use Rattle.words.specs.Words.{number, Decides}
use Rattle.regions.specs.declared.Quad.{Quad}
use Rattle.regions.specs.Rows.{quad_number}
use Rattle.machine.proofs.Tests.{never, and_left, and_right}
use Rattle.store.specs.FlatSound.{QuadFits}
use Rattle.store.proofs.Quads.{quad-number}

pub same-quad : (a b : Quad) → QuadFits a → QuadFits b → quad_number a ≡ quad_number b → a ≡ b
same-quad a b f g e = sym (quad-number a f) ∙ ap Rattle.regions.specs.Rows.quad_of e ∙ quad-number b g

pub quad_same : (a b : Quad) → a.w0 ≡ b.w0 → a.w1 ≡ b.w1 → a.w2 ≡ b.w2 → a.w3 ≡ b.w3 → quad_number a ≡ quad_number b
unfolding quad_number number
quad_same a b p q r s = rw (p, q, r, s)

-- equal words, and equal numbers
pub quads_decide : (a b : Quad) → QuadFits a → QuadFits b → (r : Bool) → r ≡ (eqb a.w3 b.w3 && (eqb a.w2 b.w2 && (eqb a.w1 b.w1 && eqb a.w0 b.w0))) → Decides r (quad_number a ≡ quad_number b)
quads_decide a b f g true e =
    let x₃ = and_right (eqb a.w3 b.w3) _ (sym e) in
    let x₂ = and_right (eqb a.w2 b.w2) _ x₃ in
    quad_same a b
    (eqb-true a.w0 b.w0 (and_right (eqb a.w1 b.w1) _ x₂)) (eqb-true a.w1 b.w1 (and_left (eqb a.w1 b.w1) _ x₂))
    (eqb-true a.w2 b.w2 (and_left (eqb a.w2 b.w2) _ x₃)) (eqb-true a.w3 b.w3 (and_left (eqb a.w3 b.w3) _ (sym e)))
quads_decide a b f g false e = λ z.
    let q = same-quad a b f g z in
    never (e ∙ rw (
      eq-eqb a.w3 b.w3 (ap (λ (h : Quad). h.w3) q),
      eq-eqb a.w2 b.w2 (ap (λ (h : Quad). h.w2) q),
      eq-eqb a.w1 b.w1 (ap (λ (h : Quad). h.w1) q),
      eq-eqb a.w0 b.w0 (ap (λ (h : Quad). h.w0) q),
    ) refl)
