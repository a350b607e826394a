-- The lines of the candidates that rows show, one row after the other.
use Prim.Native.Nat.{ℕ, suc, ◌+◌, ◌-◌, ◌≤◌, ◌<◌}
use mathlib.Core.Path.{◌≡◌, refl, sym, ap, ◌∙◌}
use mathlib.Core.List.{List, [], ◌∷◌, ◌++◌, map, append-nil}
use native.Mathlib.Omega.{arith}
use lib.ListN.{length, drop, get_or, length-drop}
use lib.Seq.{take-suc, get_or-drop}
use Rattle.regions.specs.declared.Row.{Row}
use Rattle.machine.specs.Listing.{short, Line, CandidateLine, text_of}
use Rattle.store.specs.Flat.{Flat}
use Rattle.store.specs.Gather.{candidate_at}
use Rattle.store.specs.Image.{Shows}
use Rattle.store.specs.Shown.{rows_in}
use Rattle.store.proofs.Frame.{sizes}
use Rattle.announcing.specs.Evicts.{part}
use Rattle.saving.specs.Laid.{Lays, line_text, row_texts}
use Rattle.saving.proofs.Laying.{lays_as, lays_more, lays_none}
use Rattle.saving.proofs.Splitting.{text-append, text_one, text_none}

part_none : (from : ℕ) (rs : List Row) → part from from rs ≡ []
part_none from rs = let z : from - from ≡ 0 = omega arith in rw z

part_more : (from i : ℕ) (rs : List Row) (d : Row) → from ≤ i → i < length rs → part from (i + 1) rs ≡ part from i rs ++ (get_or rs i d ∷ [])
part_more from i rs d h l =
    let z : i + 1 - from ≡ suc (i - from) = omega arith in
    let m : i - from < length (drop from rs) = omega (arith, length-drop from rs) in
    let n : from + (i - from) ≡ i = omega arith in
    rw (z, take-suc (drop from rs) (i - from) d m, get_or-drop from rs (i - from) d, n)

map-append : (a : List Row) (q : Row) → map (λ (r : Row). CandidateLine (candidate_at r)) (a ++ (q ∷ [])) ≡ map (λ (r : Row). CandidateLine (candidate_at r)) a ++ (CandidateLine (candidate_at q) ∷ [])
map-append [] q = refl
map-append (r ∷ a) q = ap (λ (l : List Line). CandidateLine (candidate_at r) ∷ l) (map-append a q)

rows_append : (a : List Row) (q : Row) → row_texts (a ++ (q ∷ [])) ≡ row_texts a ++ line_text (CandidateLine (candidate_at q))
rows_append a q =
    let l = CandidateLine (candidate_at q) in
    ap (text_of short) (map-append a q) ∙ text-append (map (λ (r : Row). CandidateLine (candidate_at r)) a) (l ∷ [])
    ∙ ap (λ (x : List ℕ). row_texts a ++ x) (text_one l [] ∙ ap (λ (x : List ℕ). line_text l ++ x) text_none ∙ append-nil (line_text l))

-- ---- the loop: the rows before i are done

abbrev pub Rows : List ℕ → ℕ → List ℕ → ℕ → List ℕ → ℕ → ℕ → Type 0
Rows b from u₀ a u i e = (f : Flat) → Shows b f → Lays u₀ u a (row_texts (part from i f.rows)) e

module _ (b : List ℕ) (from : ℕ) (u₀ : List ℕ) (a : ℕ) where
  pub rows_none : Rows b from u₀ a u₀ from a
  rows_none f w = lays_as (sym (ap row_texts (part_none from f.rows) ∙ text_none)) (lays_none u₀ a)

  pub rows-laid : {u u' : List ℕ} {i e e' : ℕ} → from ≤ i → i < rows_in b → (r : Row) → Rows b from u₀ a u i e → ((f : Flat) (d : Row) → Shows b f → r ≡ get_or f.rows i d)
      → Lays u u' e (line_text (CandidateLine (candidate_at r))) e' → Rows b from u₀ a u' (i + 1) e'
  rows-laid {u} {u'} {i} {e} {e'} h l r p row x f w =
      let m : i < length f.rows = omega (arith, (sizes w).rows) in
      lays_as (sym (ap row_texts (part_more from i f.rows r h m) ∙ rows_append (part from i f.rows) (get_or f.rows i r)
      ∙ ap (λ (q : Row). row_texts (part from i f.rows) ++ line_text (CandidateLine (candidate_at q))) (sym (row f r w)))) (lays_more (p f w) x)
