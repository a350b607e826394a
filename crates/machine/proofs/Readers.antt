-- Readers of fields one after the other: what was written is read, and what was read was written so.
use Prim.Native.Nat.{ℕ}
use mathlib.Core.Path.{◌≡◌, refl, sym, ◌∙◌}
use mathlib.Core.Logic.{inl, inr}
use mathlib.Core.Bool.{true, false}
use mathlib.Core.List.{List, [], ◌∷◌, ◌++◌}
use mathlib.Core.Option.{Option, none, some}
use native.Mathlib.Omega.{arith}
use lib.Dec.{eqb}
use borrow.Author.Tests.{eqb-true}
use Rattle.std.specs.Prelude.{if◌then◌else◌}
use Rattle.machine.specs.Fields.{with_value, taking, ending, same_text}
use Rattle.machine.specs.Listing.{none_text, maybe_field, present, maybe_in, maybe_fields, none_or, Whenever}
use Rattle.machine.proofs.Tests.{test, never, and_left, and_right}
use Rattle.machine.proofs.RoundTrips.{never_some}

-- ---- what a reader found in front of the other fields

-- a value whose fields stand in front, and what k makes of it and of the rest
pub record Found {A B : Type 0} (w : A → List (List ℕ)) (Good : A → Type 0) (k : A → List (List ℕ) → Option B) (fs : List (List ℕ)) (b : B) : Type 0 where
  pub value : A
  pub rest : List (List ℕ)
  pub parts : fs ≡ w value ++ rest
  pub good : Good value
  pub goes : k value rest ≡ some b

-- a reader that finds only what w writes of a good value
pub record Finds {A B : Type 0} (P : (A → List (List ℕ) → Option B) → List (List ℕ) → Option B) (w : A → List (List ℕ)) (Good : A → Type 0) : Type 0 where
  pub found : (k : A → List (List ℕ) → Option B) (fs : List (List ℕ)) (b : B) → P k fs ≡ some b → Found w Good k fs b

abbrev pub single : {A : Type 0} → (A → List ℕ) → A → List (List ℕ)
single text a = text a ∷ []

pub finds_one : {A B : Type 0} (read : List ℕ → Option A) (text : A → List ℕ) (Good : A → Type 0)
    → ((f : List ℕ) (a : A) → read f ≡ some a → (f ≡ text a) × Good a) → Finds {B = B} (taking read) (single text) Good
unfolding taking
finds_one {A} {B} read text Good law = record { found = go }
  where
    at_value : (k : A → List (List ℕ) → Option B) (f : List ℕ) (fs : List (List ℕ)) (b : B) (o : Option A)
        → read f ≡ o → with_value o (λ v. k v fs) ≡ some b → Found (single text) Good k (f ∷ fs) b
    at_value k f fs b none q e = absurd (never_some e)
    at_value k f fs b (some a) q e = record { value = a; rest = fs; parts = rw (law f a q).0; good = (law f a q).1; goes = e }

    go : (k : A → List (List ℕ) → Option B) (fs : List (List ℕ)) (b : B) → taking read k fs ≡ some b → Found (single text) Good k fs b
    go k [] b e = absurd (never_some e)
    go k (f ∷ fs) b e = at_value k f fs b (read f) refl e

-- a reader that reads what w writes of a good value
pub record Gives {A B : Type 0} (P : (A → List (List ℕ) → Option B) → List (List ℕ) → Option B) (w : A → List (List ℕ)) (Good : A → Type 0) : Type 0 where
  pub back : (a : A) → Good a → (k : A → List (List ℕ) → Option B) (fs : List (List ℕ)) → P k (w a ++ fs) ≡ k a fs

pub gives_one : {A B : Type 0} (read : List ℕ → Option A) (text : A → List ℕ) (Good : A → Type 0) → ((a : A) → Good a → read (text a) ≡ some a) → Gives {B = B} (taking read) (single text) Good
unfolding taking
gives_one read text Good law = record { back = λ a g k fs. rw (law a g) }

-- a reader whose first field is no value stops
pub taking_not : {A B : Type 0} (read : List ℕ → Option A) (k : A → List (List ℕ) → Option B) (f : List ℕ) (fs : List (List ℕ)) → read f ≡ none → taking read k (f ∷ fs) ≡ none
unfolding taking
taking_not read k f fs e = rw e

-- nothing is left over
pub ended : {B : Type 0} (o : Option B) (fs : List (List ℕ)) (b : B) → ending o fs ≡ some b → (fs ≡ []) × (o ≡ some b)
ended o [] b e = (refl, e)
ended o (f ∷ fs) b e = absurd (never_some e)

-- ---- what may be missing

pub same_text_lem : (s t : List ℕ) → same_text s t ≡ true → s ≡ t
unfolding same_text
same_text_lem [] [] e = refl
same_text_lem [] (b ∷ t) e = never e
same_text_lem (a ∷ s) [] e = never e
same_text_lem (a ∷ s) (b ∷ t) e = rw (eqb-true a b (and_left (eqb a b) (same_text s t) e), same_text_lem s t (and_right (eqb a b) (same_text s t) e))

pub maybe_back : {A : Type 0} (read : List ℕ → Option A) (text : A → List ℕ) (Good : A → Type 0) → ((a : A) → Good a → read (text a) ≡ some a)
    → ((a : A) → same_text (text a) none_text ≡ false) → (o : Option A) → Whenever Good o → maybe_in read (maybe_field text o) ≡ some o
unfolding maybe_in same_text
maybe_back read text Good law other none g = refl
maybe_back read text Good law other (some a) g = unless_none (other a) (law a g)
  where
    unless_none : same_text (text a) none_text ≡ false → read (text a) ≡ some a → (if same_text (text a) none_text then some none else present (read (text a))) ≡ some (some a)
    unless_none e d = rw (e, d)

pub maybe_text : {A : Type 0} (read : List ℕ → Option A) (text : A → List ℕ) (Good : A → Type 0) → ((f : List ℕ) (a : A) → read f ≡ some a → (f ≡ text a) × Good a)
    → (f : List ℕ) (o : Option A) → maybe_in read f ≡ some o → (f ≡ maybe_field text o) × Whenever Good o
unfolding maybe_in
maybe_text {A} read text Good law f o e = elim (test (same_text f none_text)) [
  | inl d ↦ let g : none ≡ o = cc (rw d at e) in rw (← g) (same_text_lem f none_text d, tt)
  | inr d ↦ at_value (read f) refl (rw d at e)
]
  where
    at_value : (v : Option A) → read f ≡ v → present v ≡ some o → (f ≡ maybe_field text o) × Whenever Good o
    at_value none q p = absurd (never_some p)
    at_value (some a) q p = let g : some a ≡ o = cc in rw (← g) (law f a q)

pub finds_none_or : {A B : Type 0} (P : (A → List (List ℕ) → Option B) → List (List ℕ) → Option B) (w : A → List (List ℕ)) (Good : A → Type 0)
    → Finds P w Good → Finds (none_or P) (maybe_fields w) (Whenever Good)
unfolding none_or
finds_none_or {A} {B} P w Good h = record { found = go }
  where
    go : (k : Option A → List (List ℕ) → Option B) (fs : List (List ℕ)) (b : B) → none_or P k fs ≡ some b → Found (maybe_fields w) (Whenever Good) k fs b
    go k [] b e = absurd (never_some e)
    go k (f ∷ fs) b e = elim (test (same_text f none_text)) [
      | inl d ↦ record { value = none; rest = fs; parts = rw (same_text_lem f none_text d); good = tt; goes = rw d at e }
      | inr d ↦ let p = h.found (λ a. k (some a)) (f ∷ fs) b (rw d at e) in record { value = some p.value; rest = p.rest; parts = p.parts; good = p.good; goes = p.goes }
    ]

-- no value's fields begin with `none`
pub record Begins {A : Type 0} (w : A → List (List ℕ)) (a : A) : Type 0 where
  pub first : List ℕ
  pub others : List (List ℕ)
  pub parts : w a ≡ first ∷ others
  pub other : same_text first none_text ≡ false

pub gives_none_or : {A B : Type 0} (P : (A → List (List ℕ) → Option B) → List (List ℕ) → Option B) (w : A → List (List ℕ)) (Good : A → Type 0)
    → Gives P w Good → ((a : A) → Begins w a) → Gives (none_or P) (maybe_fields w) (Whenever Good)
unfolding none_or same_text
gives_none_or {A} {B} P w Good h begins = record { back = go }
  where
    there : (a : A) (k : Option A → List (List ℕ) → Option B) (gs : List (List ℕ)) (f : List ℕ) (fs : List (List ℕ))
        → gs ≡ f ∷ fs → same_text f none_text ≡ false → P (λ a. k (some a)) gs ≡ none_or P k gs
    there a k gs f fs e d = rw (e, d)

    go : (o : Option A) → Whenever Good o → (k : Option A → List (List ℕ) → Option B) (fs : List (List ℕ)) → none_or P k (maybe_fields w o ++ fs) ≡ k o fs
    go none g k fs = refl
    go (some a) g k fs = sym (there a k (w a ++ fs) (begins a).first ((begins a).others ++ fs) (rw (begins a).parts) (begins a).other) ∙ h.back a g (λ a. k (some a)) fs
