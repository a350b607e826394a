-- Fields of a line one after the other, and its first field.
use Prim.Native.Nat.{ℕ, ◌+◌, ◌-◌}
use mathlib.Core.Path.{◌≡◌, refl, sym, ap, ◌∙◌}
use mathlib.Core.List.{List, ◌∷◌}
use mathlib.Core.Option.{Option, none, some}
use native.Mathlib.Omega.{arith}
use lib.ListN.{length, take, drop}
use Rattle.machine.specs.Fields.{before, fields, rest, with_value, taking}
use Rattle.machine.specs.Listing.{Line}
use Rattle.lines.proofs.Splitting.{rest_field, rest_start}
use Rattle.lines.specs.Values.{value_in}
use Rattle.machine.proofs.Parting.{take-before}
use Rattle.std.specs.Prelude as Rust
use Rattle.reading.specs.declared.fields.Parsed.{Parsed}
use Rattle.reading.specs.Given.{At, parsed_in}
use Rattle.reading.proofs.Taking.{taking-field}
use Rattle.listed_lines.specs.Given.{Reader, then_in, FirstParsed, Took}

-- ---- what was read

module _ {A : Type 0} {read : Reader A} {l : List ℕ} {fs : List (List ℕ)} {o : Option (At A)} (p : Took read l fs o) where
  pub stop : (k : A → List (List ℕ) → Option Line) → o ≡ none → read k fs ≡ none
  stop k g = p.is k ∙ ap (then_in l k) g

  pub pass : (k : A → List (List ℕ) → Option Line) {a : At A} → o ≡ some a → read k fs ≡ k a.value (rest l (a.end + 1))
  pass k g = p.is k ∙ ap (then_in l k) g

-- ---- the first field

module _ {A : Type 0} (read : List ℕ → Option A) (l : List ℕ) {to : ℕ} (g : to ≡ 0 + length (before 44 (drop 0 l))) where
  first : fields l ≡ take to l ∷ rest l (to + 1)
  first =
      let z : to - 0 ≡ to = omega arith in
      sym (rest_start l) ∙ rest_field l 0 to (omega arith) g ∙ ap (λ (n : ℕ). take n l ∷ rest l (to + 1)) z

  step : (k : A → List (List ℕ) → Option Line) → taking read k (fields l) ≡ with_value (read (take to l)) (λ v. k v (rest l (to + 1)))
  step k = ap (taking read k) first ∙ taking-field read k (take to l) (rest l (to + 1))

  pub first_not : read (take to l) ≡ none → Took (taking read) l (fields l) none
  first_not n = record { is = λ k. step k ∙ ap (λ (o : Option A). with_value o (λ v. k v (rest l (to + 1)))) n }

  pub first_is : {v : A} → read (take to l) ≡ some v → Took (taking read) l (fields l) (some (record { value = v; end = to }))
  first_is n = record { is = λ k. step k ∙ ap (λ (o : Option A). with_value o (λ v. k v (rest l (to + 1)))) n }

-- the field's bytes, as they are lent
pub first_lent : (l : List ℕ) {to : ℕ} → to ≡ length (before 44 l) → take to l ≡ before 44 l
first_lent l g = rw g (take-before 44 l)

module _ {T A : Type 0} (f : T → A) (read : List ℕ → Option A) {Answers : List ℕ → Rust.Option T → Type 0}
    (says : (s : List ℕ) (r : Rust.Option T) → Answers s r → value_in f r ≡ read s) {l : List ℕ} where
  pub first_parsed : (r : Rust.Option (Parsed T)) → FirstParsed Answers l r → Took (taking read) l (fields l) (parsed_in f r)
  first_parsed Rust.None p = first_not read l {to = length (before 44 l)} (omega arith) (rw (first_lent l refl) (sym (says _ _ p.is)))
  first_parsed (Rust.Some x) p = first_is read l (omega (arith, p.is.0)) (rw (first_lent l p.is.0) (sym (says _ _ p.is.1)))
