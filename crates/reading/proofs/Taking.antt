-- Fields of a line taken one after the other.
use Prim.Native.Nat.{ℕ, ◌+◌, ◌-◌, ◌<◌, ◌≤◌}
use mathlib.Core.Path.{◌≡◌, refl, sym, ap, subst, ◌∙◌}
use mathlib.Core.Logic.{inl, inr}
use mathlib.Core.List.{List, [], ◌∷◌}
use mathlib.Core.Option.{Option, none, some}
use native.Mathlib.Omega.{arith}
use lib.Dec.{leb}
use lib.ListN.{length, take, drop}
use borrow.Author.Tests.{leb-true, leb-false}
use Rattle.std.specs.Prelude as Rust
use Rattle.machine.proofs.Parting.{take-before}
use Rattle.machine.proofs.Tests.{test}
use Rattle.lines.specs.Values.{value_in}
use Rattle.machine.specs.Fields.{before, rest, with_value, taking, ending}
use Rattle.lines.proofs.Splitting.{rest_field, rest_past}
use Rattle.reading.specs.Line.{Line, Reader}
use Rattle.reading.specs.declared.fields.Parsed.{Parsed}
use Rattle.reading.specs.Given.{At, then_of, ElementRead, FieldRead, text_at, FieldParsed, parsed_in}

taking_none : {A : Type 0} (read : List ℕ → Option A) (k : A → List (List ℕ) → Option Line) → taking read k [] ≡ none
unfolding taking
taking_none read k = refl

pub taking-field : {A B : Type 0} (read : List ℕ → Option A) (k : A → List (List ℕ) → Option B) (f : List ℕ) (fs : List (List ℕ)) → taking read k (f ∷ fs) ≡ with_value (read f) (λ v. k v fs)
unfolding taking
taking-field read k f fs = refl

module _ {A : Type 0} (read : List ℕ → Option A) (l : List ℕ) (e : ℕ) where
  pub taking_past : length l ≤ e → FieldRead read l e none
  taking_past h = record { is = λ k. ap (taking read k) (rest_past l (e + 1) (omega arith)) ∙ taking_none read k }

  module _ (h : e < length l) {to : ℕ} (g : to ≡ e + 1 + length (before 44 (drop (e + 1) l))) where
    step : (k : A → List (List ℕ) → Option Line) → taking read k (rest l (e + 1)) ≡ with_value (read (take (to - (e + 1)) (drop (e + 1) l))) (λ v. k v (rest l (to + 1)))
    step k = ap (taking read k) (rest_field l (e + 1) to (omega arith) g) ∙ taking-field read k _ _

    pub taking_not : read (take (to - (e + 1)) (drop (e + 1) l)) ≡ none → FieldRead read l e none
    taking_not n = record { is = λ k. step k ∙ ap (λ (o : Option A). with_value o (λ v. k v (rest l (to + 1)))) n }

    pub taking_is : {v : A} → read (take (to - (e + 1)) (drop (e + 1) l)) ≡ some v → FieldRead read l e (some (record { value = v; end = to }))
    taking_is n = record { is = λ k. step k ∙ ap (λ (o : Option A). with_value o (λ v. k v (rest l (to + 1)))) n }

-- ---- a field as its reader answers it

-- the field's bytes, as they are lent
pub text_lent : (l : List ℕ) (e to : ℕ) → to ≡ e + 1 + length (text_at l e) → take (to - (e + 1)) (drop (e + 1) l) ≡ text_at l e
text_lent l e to g = let n : to - (e + 1) ≡ length (text_at l e) = omega arith in rw n (take-before 44 (drop (e + 1) l))

module _ {T A : Type 0} (f : T → A) (read : List ℕ → Option A) {Answers : List ℕ → Rust.Option T → Type 0}
    (says : (s : List ℕ) (r : Rust.Option T) → Answers s r → value_in f r ≡ read s) {l : List ℕ} {e : ℕ} where
  pub field_parsed : (r : Rust.Option (Parsed T)) → FieldParsed Answers l e r → FieldRead read l e (parsed_in f r)
  field_parsed Rust.None p = elim (test (leb (length l) e)) [
    | inl t ↦ taking_past read l e (leb-true (length l) e t)
    | inr t ↦ let h = leb-false (length l) e t in taking_not read l e h refl (rw (text_lent l e _ refl) (sym (says (text_at l e) Rust.None (p.is h))))
  ]
  field_parsed (Rust.Some x) p = taking_is read l e p.is.0 p.is.1 (rw (text_lent l e x.end p.is.1) (sym (says (text_at l e) (Rust.Some x.value) p.is.2)))

-- ---- where the line ends

pub ending_end : {B : Type 0} (l : List ℕ) (e : ℕ) (o : Option B) → length l ≤ e → ending o (rest l (e + 1)) ≡ o
ending_end l e o h = ap (ending o) (rest_past l (e + 1) (omega arith))

pub ending_more : {B : Type 0} (l : List ℕ) (e : ℕ) (o : Option B) → e < length l → ending o (rest l (e + 1)) ≡ none
ending_more l e o h = ap (ending o) (rest_field l (e + 1) (e + 1 + length (before 44 (drop (e + 1) l))) (omega arith) refl)

-- ---- what was read

module _ {A : Type 0} {read : Reader A} {l : List ℕ} {e : ℕ} {o : Option (At A)} (p : ElementRead read l e o) (k : A → List (List ℕ) → Option Line) where
  pub field_not : o ≡ none → read k (rest l (e + 1)) ≡ none
  field_not g = p.is k ∙ ap (then_of l k) g

  pub field_is : {a : At A} → o ≡ some a → read k (rest l (e + 1)) ≡ k a.value (rest l (a.end + 1))
  field_is g = p.is k ∙ ap (then_of l k) g

-- ---- the line's last field, as `Parsed::last` answers it

module _ {T : Type 0} {n end : ℕ} (x : T) {o : Rust.Option T} (h : Rust.MatchOption o (end < n) (λ v. (n ≤ end) × (v ≡ x))) where
  pub not_last : o ≡ Rust.None → end < n
  not_last e = subst (λ (q : Rust.Option T). Rust.MatchOption q (end < n) (λ v. (n ≤ end) × (v ≡ x))) e h

  pub is_last : {v : T} → o ≡ Rust.Some v → (n ≤ end) × (v ≡ x)
  is_last e = subst (λ (q : Rust.Option T). Rust.MatchOption q (end < n) (λ v. (n ≤ end) × (v ≡ x))) e h
