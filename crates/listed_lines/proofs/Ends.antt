-- A text's lines one after the other: each ends at its line feed.
use Prim.Native.Nat.{ℕ, ◌+◌, ◌-◌, ◌<◌}
use mathlib.Core.Path.{◌≡◌, refl, ap, ◌∙◌}
use mathlib.Core.List.{List, [], ◌∷◌}
use mathlib.Core.Option.{Option, none, some}
use mathlib.Core.Logic.{inl, inr}
use native.Mathlib.Omega.{arith}
use lib.Dec.{eqb}
use lib.ListN.{length, take, drop, length-drop}
use lib.Seq.{drop-drop}
use borrow.Author.Tests.{eqb-true, eqb-false}
use Rattle.machine.specs.Fields.{before, behind, fields}
use Rattle.machine.specs.Listing.{Line, short, line_of, new_line, in_line, text_lines, one_more, lines_in, lines_from}
use Rattle.machine.proofs.Tests.{test}
use Rattle.machine.proofs.Parting.{take-before, before-skip, before-met, behind-skip, behind-met, before-length}
use Rattle.listed_lines.specs.declared.line.Line as line
use Rattle.listed_lines.specs.declared.line.Line.TheVariants.{Not}
use Rattle.listed_lines.specs.Given.{line_in, lines_of_text, LineRead}

-- a line in front of others
abbrev line_then : List ℕ → Option (List (List ℕ)) → Option (List (List ℕ))
line_then l none = none
line_then l (some ls) = some (l ∷ ls)

in_then : (c : ℕ) (l : List ℕ) (o : Option (List (List ℕ))) → in_line c (line_then l o) ≡ line_then (c ∷ l) o
in_then c l none = refl
in_then c l (some ls) = refl

new_then : (o : Option (List (List ℕ))) → new_line o ≡ line_then [] o
new_then none = refl
new_then (some ls) = refl

-- a text without line feed that is not empty has no lines
unended : (c : ℕ) (b : List ℕ) → length (before 10 (c ∷ b)) ≡ length (c ∷ b) → text_lines (c ∷ b) ≡ none
unfolding text_lines
unended c [] h = elim (test (eqb c 10)) [
  | inl t ↦ let e = eqb-true c 10 t in absurd (omega (arith, ap length (before-met 10 []), rw e at h))
  | inr t ↦ rw t
]
unended c (d ∷ b) h = elim (test (eqb c 10)) [
  | inl t ↦ let e = eqb-true c 10 t in absurd (omega (arith, ap length (before-met 10 (d ∷ b)), rw e at h))
  | inr t ↦ let n = eqb-false c 10 t in rw t (ap (in_line c) (unended d b (omega (arith, rw (before-skip 10 c (d ∷ b) n) at h))))
]

-- a text with one has its first line and those behind it
ended : (b : List ℕ) → length (before 10 b) < length b → text_lines b ≡ line_then (before 10 b) (text_lines (behind 10 b))
unfolding text_lines
ended [] h = absurd (omega arith)
ended (c ∷ b) h = elim (test (eqb c 10)) [
  | inl t ↦ let e = eqb-true c 10 t in rw (t, e, before-met 10 b, behind-met 10 b) (new_then (text_lines b))
  | inr t ↦
      let n = eqb-false c 10 t in
      let m : length (before 10 b) < length b = omega (arith, rw (before-skip 10 c b n) at h) in
      rw (t, before-skip 10 c b n, behind-skip 10 c b n) (ap (in_line c) (ended b m) ∙ in_then c (before 10 b) (text_lines (behind 10 b)))
]

-- ---- lines read

unlined : (l : List ℕ) (o : Option (List (List ℕ))) → lines_from short (line_then l o) ≡ one_more (line_of short (fields l)) (lines_from short o)
unfolding lines_in
unlined l none = nothing (line_of short (fields l))
  where
    nothing : (o : Option Line) → none ≡ one_more o none
    nothing none = refl
    nothing (some m) = refl
unlined l (some ls) = refl

no_lines : (b : List ℕ) → text_lines b ≡ none → lines_of_text b ≡ none
unfolding lines_of_text
no_lines b e = ap (lines_from short) e

module _ (b : List ℕ) (at : ℕ) (h : at < length b) {end : ℕ} (g : end ≡ at + length (before 10 (drop at b))) where
  pub no_end : end ≡ length b → (o : Option (List Line)) → lines_of_text (drop at b) ≡ one_more none o
  no_end e o = no_lines (drop at b) (whole (drop at b) (omega (arith, length-drop at b)) (omega (arith, length-drop at b)))
    where
      whole : (d : List ℕ) → 0 < length d → length (before 10 d) ≡ length d → text_lines d ≡ none
      whole [] p q = absurd (omega arith)
      whole (c ∷ d) p q = unended c d q

  pub line-ends : end < length b → lines_of_text (drop at b) ≡ one_more (line_of short (fields (take (end - at) (drop at b)))) (lines_of_text (drop (end + 1) b))
  unfolding lines_of_text behind
  line-ends m =
      let n : end - at ≡ length (before 10 (drop at b)) = omega arith in
      let q : at + (length (before 10 (drop at b)) + 1) ≡ end + 1 = omega arith in
      let d : drop (length (before 10 (drop at b)) + 1) (drop at b) ≡ drop (end + 1) b = rw (drop-drop, q) in
      ap (lines_from short) (ended (drop at b) (omega (arith, length-drop at b)))
      ∙ unlined (before 10 (drop at b)) (text_lines (drop (length (before 10 (drop at b)) + 1) (drop at b)))
      ∙ rw (n, take-before, d)

  -- what line_at answers
  pub line_none : {ws ps : List ℕ} → end ≡ length b → LineRead b at ws ps (record { value = Not; end = end })
  line_none e = record { is = no_end e (lines_of_text (drop end b)); on = omega arith; inside = omega arith }

  pub line_is : {ws ps : List ℕ} {r : line.Line} → (end ≡ length b → ⊥) → line_of short (fields (take (end - at) (drop at b))) ≡ line_in ws ps r
      → LineRead b at ws ps (record { value = r; end = end + 1 })
  line_is d e =
      let m : end < length b = omega (arith, before-length 10 (drop at b), length-drop at b) in
      record { is = line-ends m ∙ ap (λ (o : Option Line). one_more o (lines_of_text (drop (end + 1) b))) e; on = omega arith; inside = omega arith }
