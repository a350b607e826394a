-- What may be missing: a field that is `none`, or the thing itself.
use Prim.Native.Nat.{ℕ, ◌+◌, ◌-◌, ◌<◌, ◌≤◌}
use mathlib.Core.Path.{◌≡◌, refl, sym, ap, ◌∙◌}
use mathlib.Core.Bool.{true, false}
use mathlib.Core.List.{List, [], ◌∷◌}
use mathlib.Core.Option.{Option, none, some}
use native.Mathlib.Omega.{arith}
use lib.ListN.{length, take, drop}
use Rattle.std.specs.Prelude as Rust
use Rattle.std.specs.Prelude.{Some, None}
use Rattle.reading.specs.declared.fields.Parsed.{Parsed}
use Rattle.machine.proofs.Tests.{never}
use Rattle.machine.specs.Fields.{before, same_text, rest, with_value, taking}
use Rattle.machine.specs.Listing.{Line, none_text, present, maybe_in, none_or}
use Rattle.lines.proofs.Splitting.{rest_field, rest_past}
use Rattle.reading.specs.Given.{At, parsed_in}
use Rattle.listed_lines.specs.Given.{Reader, then_in, Took, starts_none, NoneThen, NoneAt, MaybeValued, MaybeParsed}

-- ---- whether a field is `none`

module _ (l : List ℕ) (e : ℕ) where
  pub none_past : length l ≤ e → NoneAt l e None
  none_past h = record { not = λ z. ap starts_none (rest_past l (e + 1) (omega arith)); is = tt }

  module _ (h : e < length l) {to : ℕ} (g : to ≡ e + 1 + length (before 44 (drop (e + 1) l))) where
    pub none_not : same_text (take (to - (e + 1)) (drop (e + 1) l)) none_text ≡ false → NoneAt l e None
    none_not n = record { not = λ z. ap starts_none (rest_field l (e + 1) to (omega arith) g) ∙ n; is = tt }

    pub none_is : same_text (take (to - (e + 1)) (drop (e + 1) l)) none_text ≡ true → NoneAt l e (Some to)
    none_is n = record {
      not = λ z. never (sym z);
      is = record { field = take (to - (e + 1)) (drop (e + 1) l); parts = rest_field l (e + 1) to (omega arith) g; same = n };
    }

-- ---- one field

-- what is there
abbrev pub there : {A : Type 0} → Option (At A) → Option (At (Option A))
there none = none
there (some a) = some (record { value = some a.value; end = a.end })

there_then : {A : Type 0} (l : List ℕ) (k : Option A → List (List ℕ) → Option Line) (o : Option (At A)) → then_in l (λ v. k (some v)) o ≡ then_in l k (there o)
there_then l k none = refl
there_then l k (some a) = refl

module _ {A : Type 0} (read : List ℕ → Option A) (k : Option A → List (List ℕ) → Option Line) where
  maybe_none : {fs gs : List (List ℕ)} → NoneThen fs gs → taking (maybe_in read) k fs ≡ k none gs
  unfolding taking maybe_in
  maybe_none n = rw (n.parts, n.same)

  found : (o : Option A) (fs : List (List ℕ)) → with_value (present o) (λ v. k v fs) ≡ with_value o (λ v. k (some v) fs)
  found none fs = refl
  found (some a) fs = refl

  maybe_some : (fs : List (List ℕ)) → starts_none fs ≡ false → taking (maybe_in read) k fs ≡ taking read (λ v. k (some v)) fs
  unfolding taking maybe_in
  maybe_some [] n = refl
  maybe_some (f ∷ fs) n = rw n (found (read f) fs)

module _ {A : Type 0} (read : List ℕ → Option A) {l : List ℕ} {e : ℕ} where
  pub no_value : {r : ℕ} → NoneAt l e (Some r) → Took (taking (maybe_in read)) l (rest l (e + 1)) (some (record { value = none; end = r }))
  no_value n = record { is = λ k. maybe_none read k n.is }

  pub maybe_value : NoneAt l e None → {o : Option (At A)} → Took (taking read) l (rest l (e + 1)) o → Took (taking (maybe_in read)) l (rest l (e + 1)) (there o)
  maybe_value n {o} p = record { is = λ k. maybe_some read k (rest l (e + 1)) (n.not refl) ∙ p.is (λ v. k (some v)) ∙ there_then l k o }

-- ---- what may be missing, as its reader answers it

module _ {T A : Type 0} (f : T → A) (g : Rust.Option T → Option A) (g-none : g None ≡ none) (g-some : (v : T) → g (Some v) ≡ some (f v)) {Answers : Rust.Option (Parsed T) → Type 0}
    {read : Reader (Option A)} {l : List ℕ} {e : ℕ} (missing : (r : ℕ) → NoneAt l e (Some r) → Took read l (rest l (e + 1)) (some (record { value = none; end = r })))
    (found : NoneAt l e None → (o : Rust.Option (Parsed T)) → Answers o → Took read l (rest l (e + 1)) (there (parsed_in f o))) where
  maybe_valued : (end : ℕ) (v : Rust.Option T) → MaybeValued Answers l e end v → Took read l (rest l (e + 1)) (some (record { value = g v; end = end }))
  maybe_valued end None p = rw g-none (missing end p)
  maybe_valued end (Some v) p = rw (g-some v) (found p.0 (Some (record { value = v; end = end })) p.1)

  pub maybe_parsed : (r : Rust.Option (Parsed (Rust.Option T))) → MaybeParsed Answers l e r → Took read l (rest l (e + 1)) (parsed_in g r)
  maybe_parsed None p = found p.is.0 None p.is.1
  maybe_parsed (Some x) p = maybe_valued x.end x.value p.is

-- ---- several fields

-- a reader that finds nothing where no field is left
pub record NotEmpty {A : Type 0} (read : Reader A) : Type 0 where
  pub is : (k : A → List (List ℕ) → Option Line) → read k [] ≡ none

module _ {A : Type 0} (read : Reader A) (k : Option A → List (List ℕ) → Option Line) where
  or_none : {fs gs : List (List ℕ)} → NoneThen fs gs → none_or read k fs ≡ k none gs
  unfolding none_or
  or_none n = rw (n.parts, n.same)

  or_some : NotEmpty read → (fs : List (List ℕ)) → starts_none fs ≡ false → none_or read k fs ≡ read (λ a. k (some a)) fs
  unfolding none_or
  or_some m [] n = sym (m.is (λ a. k (some a)))
  or_some m (f ∷ fs) n = rw n

module _ {A : Type 0} (read : Reader A) {l : List ℕ} {e : ℕ} where
  pub nothing : {r : ℕ} → NoneAt l e (Some r) → Took (none_or read) l (rest l (e + 1)) (some (record { value = none; end = r }))
  nothing n = record { is = λ k. or_none read k n.is }

  pub something : NoneAt l e None → NotEmpty read → {o : Option (At A)} → Took read l (rest l (e + 1)) o → Took (none_or read) l (rest l (e + 1)) (there o)
  something n m {o} p = record { is = λ k. or_some read k m (rest l (e + 1)) (n.not refl) ∙ p.is (λ v. k (some v)) ∙ there_then l k o }
