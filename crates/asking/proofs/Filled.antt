-- A line whose fields are those of a form asks for what the word makes of them.
use Prim.Native.Nat.{ℕ, ◌+◌}
use mathlib.Core.Path.{◌≡◌, refl, ap, ◌∙◌}
use mathlib.Core.List.{List}
use mathlib.Core.Option.{some}
use Rattle.std.specs.Prelude.{Option, None, Some, MatchOption}
use Rattle.machine.specs.Fields.{rest, ending}
use Rattle.reading.specs.Line.{Line}
use Rattle.reading.specs.Forms.{Values, blank, Then, form_then}
use Rattle.reading.specs.declared.fields.Parsed.{Parsed}
use Rattle.reading.specs.declared.forms.Values as forms
use Rattle.reading.specs.Given.{values_of, FormRead, WholeRead}
use Rattle.reading.proofs.Filling.{line_not, line_is, fields_not, fields-are}
use Rattle.asking.specs.declared.calls.Asked.{Asked}
use Rattle.asking.specs.Given.{asked_line, asked_in}

-- the line's last fields
pub whole_asked : {l form : List ℕ} {e : ℕ} (o : Option forms.Values) → WholeRead l e form o → (line : Values → Line) (ask : forms.Values → Asked)
    → ((v : forms.Values) → asked_line l (ask v) ≡ some (line (values_of v))) → (r : Option Asked) → MatchOption o (r ≡ None) (λ v. r ≡ Some (ask v))
    → asked_in l r ≡ form_then form blank (λ v. ending (some (line v))) (rest l (e + 1))
whole_asked {l} None p line ask f r m = ap (asked_in l) m ∙ line_not p line refl
whole_asked {l} (Some v) p line ask f r m = ap (asked_in l) m ∙ f v ∙ line_is p line refl

-- and those before a list
pub fields_asked : {l form : List ℕ} {e : ℕ} (o : Option (Parsed forms.Values)) → FormRead l e form o → (k : Then) (ask : Parsed forms.Values → Asked)
    → ((t : Parsed forms.Values) → asked_line l (ask t) ≡ k (values_of t.value) (rest l (t.end + 1))) → (r : Option Asked) → MatchOption o (r ≡ None) (λ t. r ≡ Some (ask t))
    → asked_in l r ≡ form_then form blank k (rest l (e + 1))
fields_asked {l} None p k ask f r m = ap (asked_in l) m ∙ fields_not p k refl
fields_asked {l} (Some t) p k ask f r m = ap (asked_in l) m ∙ f t ∙ fields-are p k refl
