-- Texts behind commas.
use Prim.Native.Nat.{ℕ}
use mathlib.Core.Path.{◌≡◌, refl, sym, ap, ◌∙◌}
use mathlib.Core.List.{List, [], ◌∷◌, ◌++◌, append_assoc, append-nil}
use Rattle.machine.specs.Text.{joined}
use Rattle.lines.specs.Text.{with_commas}

pub joined-commas : (t : List ℕ) (ts : List (List ℕ)) → joined (t ∷ ts) ≡ t ++ with_commas ts
unfolding joined with_commas
joined-commas t [] = sym (append-nil t)
joined-commas t (u ∷ ts) = ap (λ (l : List ℕ). t ++ (44 ∷ l)) (joined-commas u ts)

pub commas_both : (ts us : List (List ℕ)) → with_commas (ts ++ us) ≡ with_commas ts ++ with_commas us
unfolding with_commas
commas_both [] us = refl
commas_both (t ∷ ts) us = ap (λ (l : List ℕ). 44 ∷ (t ++ l)) (commas_both ts us) ∙ ap (λ (l : List ℕ). 44 ∷ l) (sym (append_assoc t (with_commas ts) (with_commas us)))

pub commas-cons : (t : List ℕ) (ts : List (List ℕ)) → with_commas (t ∷ ts) ≡ (44 ∷ t) ++ with_commas ts
unfolding with_commas
commas-cons t ts = refl

pub commas_one : (t : List ℕ) → with_commas (t ∷ []) ≡ 44 ∷ t
unfolding with_commas
commas_one t = ap (λ (l : List ℕ). 44 ∷ l) (append-nil t)

pub commas-append : (ts : List (List ℕ)) (u : List ℕ) → with_commas (ts ++ (u ∷ [])) ≡ with_commas ts ++ (44 ∷ u)
commas-append ts u = commas_both ts (u ∷ []) ∙ ap (λ (l : List ℕ). with_commas ts ++ l) (commas_one u)
