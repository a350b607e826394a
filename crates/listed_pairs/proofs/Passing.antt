-- A line that is passed: where the next one begins, and what its first byte tells.
use Prim.Native.Nat.{ℕ, ◌+◌, ◌-◌, ◌<◌}
use mathlib.Core.Path.{◌≡◌, refl, sym, ap, subst, ◌∙◌}
use mathlib.Core.Bool.{Bool, true}
use mathlib.Core.List.{List, [], ◌∷◌}
use mathlib.Core.Option.{none, some}
use mathlib.Core.Logic.{inl, inr}
use native.Mathlib.Omega.{arith}
use lib.Dec.{eqb}
use lib.ListN.{length, take, drop, length-drop}
use borrow.Author.Tests.{eqb-true, eqb-false}
use Rattle.ident.specs.declared.Kind.{Kind}
use Rattle.ident.specs.declared.Kind.TheVariants.{Txid, Wtxid}
use Rattle.machine.specs.State.{is_some}
use Rattle.machine.specs.Text.{kind_letter}
use Rattle.machine.specs.Claim.{same_kind}
use Rattle.machine.specs.Fields.{before, fields}
use Rattle.machine.specs.Listing.{Line, HeadLine, RequestLine, CandidateLine, short, key_field, request_fields, line_of}
use Rattle.machine.proofs.Tests.{test, never}
use Rattle.machine.proofs.Parting.{take-before, before-length}
use Rattle.machine.proofs.Forms.{short-fits}
use Rattle.machine.proofs.ListingLines.{line-text}
use Rattle.lines.proofs.Splitting.{rest_field, rest_start}
use Rattle.listed_lines.specs.Starts.{keyed}
use Rattle.listed_lines.specs.Given.{lines_of_text}
use Rattle.listed_lines.proofs.Starts.{keyed-no-candidate, same_head}
use Rattle.listed_lines.proofs.Ends.{no_end, line-ends}
use Rattle.listed_form.proofs.Stepping.{parted}
use Rattle.listed_pairs.specs.Given.{starts_wtxid, Tells, LinePassed}

-- ---- the letter

letter-kind : (k : Kind) → eqb (kind_letter k) 119 ≡ same_kind k Wtxid
letter-kind Txid = refl
letter-kind Wtxid = refl

-- a line's bytes begin as its first field does, and as the text does where it stands
begins : (x : ℕ) (l : List ℕ) {c : ℕ} {f : List ℕ} → before x l ≡ c ∷ f → starts_wtxid l ≡ eqb c 119
unfolding before
begins x [] e = absurd (omega (arith, ap length e))
begins x (d ∷ l) {c} e = elim (test (eqb d x)) [
  | inl t ↦ absurd (omega (arith, ap length (rw t at e)))
  | inr t ↦ let g : d ≡ c = first (rw t at e) in ap (λ (y : ℕ). eqb y 119) g
]
  where
    first : {a b : ℕ} {s t : List ℕ} → a ∷ s ≡ b ∷ t → a ≡ b
    first e = cc

line-begins : (s : List ℕ) → starts_wtxid (before 10 s) ≡ starts_wtxid s
unfolding before
line-begins [] = refl
line-begins (c ∷ s) = elim (test (eqb c 10)) [
  | inl t ↦ let e = eqb-true c 10 t in rw e
  | inr t ↦ rw t
]

wtxid-keyed : (l : List ℕ) → starts_wtxid l ≡ true → keyed l ≡ true
wtxid-keyed [] e = never e
wtxid-keyed (c ∷ l) e = let d = eqb-true c 119 e in rw d

told-by : (l : List ℕ) (m : Line) → line_of short (fields l) ≡ some m → Tells (starts_wtxid l) m
unfolding request_fields key_field
told-by l (HeadLine s) e = tt
told-by l (RequestLine q) e =
    let d = line-text short short-fits (fields l) (RequestLine q) e in
    let to = length (before 44 (drop 0 l)) in
    let n : to - 0 ≡ to = omega arith in
    let f = rest_field l 0 to (omega arith) (omega arith) in
    let g = same_head (sym (rw (n, take-before 44 (drop 0 l)) at f) ∙ rest_start l ∙ d.0) in
    begins 44 l g ∙ letter-kind q.key.kind
told-by l (CandidateLine c) e = elim (test (starts_wtxid l)) [
  | inl t ↦ absurd (keyed-no-candidate l (wtxid-keyed l t) c e)
  | inr t ↦ t
]

-- ---- the line at an index

module _ (b : List ℕ) (at : ℕ) (h : at < length b) {end : ℕ} (g : end ≡ at + length (before 10 (drop at b))) where
  pub passed_none : end ≡ length b → LinePassed b at end
  passed_none e = record { is = λ ls d. never (ap is_some (sym (no_end b at h g e none) ∙ d)); on = omega arith; inside = omega arith }

  pub passed-is : (end ≡ length b → ⊥) → LinePassed b at (end + 1)
  passed-is n =
      let m : end < length b = omega (arith, before-length 10 (drop at b), length-drop at b) in
      let k : end - at ≡ length (before 10 (drop at b)) = omega arith in
      let whole : take (end - at) (drop at b) ≡ before 10 (drop at b) = rw (k, take-before 10 (drop at b)) in
      record {
        is = λ ls e.
            let d = parted (line_of short (fields (take (end - at) (drop at b)))) (lines_of_text (drop (end + 1) b)) (sym (line-ends b at h g m) ∙ e) in
            record {
              first = d.first;
              others = d.others;
              parts = d.parts;
              are = d.are;
              tells = subst (λ (x : Bool). Tells x d.first) (ap starts_wtxid whole ∙ line-begins (drop at b)) (told-by (take (end - at) (drop at b)) d.first d.is);
            };
        on = omega arith;
        inside = omega arith;
      }

pub record SomePassed (b : List ℕ) (at : ℕ) : Type 0 where
  pub end : ℕ
  pub passed : LinePassed b at end

pub some_passed : (b : List ℕ) (at : ℕ) → at < length b → SomePassed b at
some_passed b at h =
    let e = at + length (before 10 (drop at b)) in
    elim (test (eqb e (length b))) [
      | inl t ↦ record { end = e; passed = passed_none b at h {end = e} refl (eqb-true e (length b) t) }
      | inr t ↦ record { end = e + 1; passed = passed-is b at h {end = e} refl (eqb-false e (length b) t) }
    ]
