-- The fields of a form, one after the other.
use Prim.Native.Nat.{ℕ, suc, ◌+◌, ◌<◌, ◌≤◌}
use mathlib.Core.Path.{◌≡◌, refl, sym, ap, subst, ◌∙◌}
use mathlib.Core.Logic.{◌⊎◌, inl, inr}
use Rattle.std.specs.Prelude.{◌≢◌, MatchOption}
use mathlib.Core.List.{List, [], ◌∷◌}
use mathlib.Core.Option.{Option, none, some}
use native.Mathlib.Omega.{arith}
use lib.ListN.{length, drop, get_or}
use lib.Seq.{drop-cons, drop-length}
use borrow.Author.Tests.{ne_eqb}
use Rattle.machine.specs.Fields.{number_of, bool_of, hash_of, key_of, item_of, rest, taking, ending}
use Rattle.std.specs.Prelude as Rust
use Rattle.reading.specs.declared.fields.Parsed.{Parsed}
use Rattle.reading.specs.declared.forms.Values as forms
use Rattle.reading.specs.Line.{Line}
use Rattle.reading.specs.Forms.{Values, blank, Then, key_field, item_field, hash_field, combined_field, preferred_field, source_field, put_key, put_item, put_hash, put_number, put_bool}
use Rattle.reading.specs.Forms.{plain_then, field_then, form_then}
use Rattle.reading.specs.Given.{FieldRead, parsed_in, values_of, then_values, FieldTaken, FormRead, whole_line, WholeRead}
use Rattle.reading.proofs.Taking.{field_not, field_is, ending_end, ending_more}

-- ---- one field

-- the values that were read, as the code has them
moved : (l : List ℕ) (k : Then) (e : ℕ) {v w : Values} → w ≡ v → k v (rest l (e + 1)) ≡ k w (rest l (e + 1))
moved l k e h = ap (λ (x : Values). k x (rest l (e + 1))) (sym h)

-- what is made of a field, by its letter
module _ {f : ℕ} (v : Values) where
  pub key-field : f ≡ key_field → (k : Then) (fs : List (List ℕ)) → field_then f v k fs ≡ taking key_of (λ x. k (put_key v x)) fs
  unfolding field_then
  key-field e k fs = rw e

  pub item-field : f ≡ item_field → (k : Then) (fs : List (List ℕ)) → field_then f v k fs ≡ taking item_of (λ x. k (put_item v x)) fs
  unfolding field_then
  item-field e k fs = rw e

  pub hash-field : (f ≡ hash_field) ⊎ (f ≡ combined_field) → (k : Then) (fs : List (List ℕ)) → field_then f v k fs ≡ taking hash_of (λ x. k (put_hash f v x)) fs
  unfolding field_then
  hash-field (inl e) k fs = rw e
  hash-field (inr e) k fs = rw e

  pub bool-field : (f ≡ preferred_field) ⊎ (f ≡ source_field) → (k : Then) (fs : List (List ℕ)) → field_then f v k fs ≡ taking bool_of (λ x. k (put_bool f v x)) fs
  unfolding field_then plain_then
  bool-field (inl e) k fs = rw e
  bool-field (inr e) k fs = rw e

  pub number-field : f ≢ key_field → f ≢ item_field → ((f ≡ hash_field) ⊎ (f ≡ combined_field) → ⊥) → ((f ≡ preferred_field) ⊎ (f ≡ source_field) → ⊥)
      → (k : Then) (fs : List (List ℕ)) → field_then f v k fs ≡ taking number_of (λ x. k (put_number f v x)) fs
  unfolding field_then plain_then
  number-field a b c d k fs =
      rw (
        ne_eqb f key_field a,
        ne_eqb f item_field b,
        ne_eqb f hash_field (λ e. c (inl e)),
        ne_eqb f combined_field (λ e. c (inr e)),
        ne_eqb f preferred_field (λ e. d (inl e)),
        ne_eqb f source_field (λ e. d (inr e)),
      )

-- a field of the letter f that `read` reads, which `put` puts among the values
module _ {T A : Type 0} (view : T → A) (read : List ℕ → Option A) (put : A → Values) {l : List ℕ} {e f : ℕ} {v : Values}
    (g : (k : Then) (fs : List (List ℕ)) → field_then f v k fs ≡ taking read (λ x. k (put x)) fs)
    {o : Rust.Option (Parsed T)} (p : FieldRead read l e (parsed_in view o)) where
  pub no_field : o ≡ Rust.None → FieldTaken l e f v Rust.None
  no_field n = record { is = λ k. g k _ ∙ field_not p (λ x. k (put x)) (ap (parsed_in view) n) }

  pub field_taken : {x : Parsed T} {r : Parsed forms.Values} → o ≡ Rust.Some x → values_of r.value ≡ put (view x.value) → r.end ≡ x.end → FieldTaken l e f v (Rust.Some r)
  field_taken {x} {r} n h d = record { is = λ k. g k _ ∙ field_is p (λ y. k (put y)) (ap (parsed_in view) n) ∙ rw d (moved l k x.end h) }

-- ---- the loop over the letters

-- the fields of the first i letters are read, and come to v
pub record Begun (l : List ℕ) (e : ℕ) (form : List ℕ) (i : ℕ) (v : forms.Values) (to : ℕ) : Type 0 where
  pub is : (k : Then) → form_then form blank k (rest l (e + 1)) ≡ form_then (drop i form) (values_of v) k (rest l (to + 1))

pub begun : (l : List ℕ) (e : ℕ) (form : List ℕ) {v : forms.Values} → values_of v ≡ blank → Begun l e form 0 v e
begun l e form {v} g = record { is = λ k. ap (λ (x : Values). form_then form x k (rest l (e + 1))) (sym g) }

drop_next : (i : ℕ) (form : List ℕ) → i < length form → drop i form ≡ get_or form i 0 ∷ drop (i + 1) form
drop_next i form h = let e : i + 1 ≡ suc i = omega arith in rw e (drop-cons form i 0 h)

form_next : (f : ℕ) (form : List ℕ) (v : Values) (k : Then) (fs : List (List ℕ)) → form_then (f ∷ form) v k fs ≡ field_then f v (λ w. form_then form w k) fs
unfolding form_then
form_next f form v k fs = refl

form_none : (v : Values) (k : Then) (fs : List (List ℕ)) → form_then [] v k fs ≡ k v fs
unfolding form_then
form_none v k fs = refl

drop_none : (i : ℕ) (form : List ℕ) → length form ≤ i → i ≤ length form → drop i form ≡ []
drop_none i form h g = let e : i ≡ length form = omega arith in rw e (drop-length form)

module _ {l : List ℕ} {e : ℕ} {form : List ℕ} {i : ℕ} {v : forms.Values} {to : ℕ} (b : Begun l e form i v to) where
  module _ (h : i < length form) {r : Rust.Option (Parsed forms.Values)} (t : FieldTaken l to (get_or form i 0) (values_of v) r) where
    turn : (k : Then) → form_then form blank k (rest l (e + 1)) ≡ then_values l (λ w. form_then (drop (i + 1) form) w k) r
    turn k =
        b.is k
        ∙ ap (λ (x : List ℕ). form_then x (values_of v) k (rest l (to + 1))) (drop_next i form h)
        ∙ form_next (get_or form i 0) (drop (i + 1) form) (values_of v) k (rest l (to + 1))
        ∙ t.is (λ w. form_then (drop (i + 1) form) w k)

    pub stopped : r ≡ Rust.None → FormRead l e form Rust.None
    stopped g = record { is = λ k. turn k ∙ ap (then_values l (λ w. form_then (drop (i + 1) form) w k)) g }

    pub further : {w : forms.Values} {end : ℕ} → r ≡ Rust.Some (record { value = w; end = end }) → Begun l e form (i + 1) w end
    further g = record { is = λ k. turn k ∙ ap (then_values l (λ w. form_then (drop (i + 1) form) w k)) g }

  pub whole : length form ≤ i → i ≤ length form → FormRead l e form (Rust.Some (record { value = v; end = to }))
  whole h g = record { is = λ k. b.is k ∙ ap (λ (x : List ℕ). form_then x (values_of v) k (rest l (to + 1))) (drop_none i form h g) ∙ form_none (values_of v) k (rest l (to + 1)) }

-- ---- the line's last fields

module _ {l : List ℕ} {e : ℕ} {form : List ℕ} {r : Rust.Option (Parsed forms.Values)} (p : FormRead l e form r) where
  abbrev last : (Values → Line) → Then
  last line v = ending (some (line v))

  pub no_whole : r ≡ Rust.None → WholeRead l e form Rust.None
  no_whole g = record { is = λ line. p.is (last line) ∙ ap (then_values l (last line)) g }

  module _ {v : forms.Values} {end : ℕ} (g : r ≡ Rust.Some (record { value = v; end = end })) where
    to_end : (line : Values → Line) → form_then form blank (last line) (rest l (e + 1)) ≡ last line (values_of v) (rest l (end + 1))
    to_end line = p.is (last line) ∙ ap (then_values l (last line)) g

    pub whole_last : {o : Rust.Option forms.Values} → MatchOption o (end < length l) (λ w. (length l ≤ end) × (w ≡ v)) → WholeRead l e form o
    whole_last {o = Rust.None} h = record { is = λ line. to_end line ∙ ending_more l end _ h }
    whole_last {o = Rust.Some w} h = record { is = λ line. to_end line ∙ ending_end l end _ h.0 ∙ ap (λ (x : forms.Values). some (line (values_of x))) (sym h.1) }

-- what they make
module _ {l : List ℕ} {e : ℕ} {form : List ℕ} {r : Rust.Option forms.Values} (p : WholeRead l e form r) (line : Values → Line) where
  pub line_not : r ≡ Rust.None → none ≡ form_then form blank (λ v. ending (some (line v))) (rest l (e + 1))
  line_not g = sym (p.is line ∙ ap (whole_line line) g)

  pub line_is : {v : forms.Values} → r ≡ Rust.Some v → some (line (values_of v)) ≡ form_then form blank (λ v. ending (some (line v))) (rest l (e + 1))
  line_is g = sym (p.is line ∙ ap (whole_line line) g)

-- the fields of a form, and what follows them
module _ {l : List ℕ} {e : ℕ} {form : List ℕ} {r : Rust.Option (Parsed forms.Values)} (p : FormRead l e form r) (k : Then) where
  pub fields_not : r ≡ Rust.None → none ≡ form_then form blank k (rest l (e + 1))
  fields_not g = sym (p.is k ∙ ap (then_values l k) g)

  pub fields-are : {v : forms.Values} {end : ℕ} → r ≡ Rust.Some (record { value = v; end = end }) → k (values_of v) (rest l (end + 1)) ≡ form_then form blank k (rest l (e + 1))
  fields-are g = sym (p.is k ∙ ap (then_values l k) g)

-- the form of a word that is known
pub formed : {W : Type 0} (form : W → List ℕ) {x y : W} {l : List ℕ} {e : ℕ} {r : Rust.Option (Parsed forms.Values)} → x ≡ y → FormRead l e (form y) r → FormRead l e (form x) r
formed {W} form {x} {y} {l} {e} {r} g p = subst (λ (w : W). FormRead l e (form w) r) (sym g) p

pub whole_formed : {W : Type 0} (form : W → List ℕ) {x y : W} {l : List ℕ} {e : ℕ} {r : Rust.Option forms.Values} → x ≡ y → WholeRead l e (form y) r → WholeRead l e (form x) r
whole_formed {W} form {x} {y} {l} {e} {r} g p = subst (λ (w : W). WholeRead l e (form w) r) (sym g) p
