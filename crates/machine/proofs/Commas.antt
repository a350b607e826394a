-- Fields parted by commas and lines ended by line feeds: parting what was joined, and joining what was parted.
use Prim.Native.Nat.{ℕ}
use mathlib.Core.Path.{◌≡◌, refl, ap, ◌∙◌}
use mathlib.Core.Logic.{inl, inr}
use mathlib.Core.List.{List, [], ◌∷◌, ◌++◌}
use mathlib.Core.Option.{Option, none, some}
use native.Mathlib.Omega.{arith}
use lib.Dec.{eqb}
use borrow.Author.Tests.{eqb-true, ne_eqb}
use Rattle.machine.specs.Text.{joined}
use Rattle.machine.specs.Fields.{push, fields}
use Rattle.machine.specs.Listing.{new_line, in_line, text_lines}
use Rattle.machine.proofs.Tests.{test}
use Rattle.machine.proofs.RoundTrips.{never_some}
use Rattle.machine.proofs.Forms.{Above}

-- no field has a comma or a line feed
abbrev pub AllAbove : List (List ℕ) → Type 0
AllAbove [] = Unit {0}
AllAbove (f ∷ fs) = Above f × AllAbove fs

-- ---- fields

fields_one : (f : List ℕ) → Above f → fields f ≡ f ∷ []
unfolding fields push
fields_one [] a = refl
fields_one (c ∷ f) a = rw (ne_eqb c 44 (λ e. omega (arith, a.0)), fields_one f a.1)

fields_more : (f l : List ℕ) → Above f → fields (f ++ (44 ∷ l)) ≡ f ∷ fields l
unfolding fields push
fields_more [] l a = refl
fields_more (c ∷ f) l a = rw (ne_eqb c 44 (λ e. omega (arith, a.0)), fields_more f l a.1)

-- the fields of joined texts are those texts
pub fields-joined : (f : List ℕ) (fs : List (List ℕ)) → AllAbove (f ∷ fs) → fields (joined (f ∷ fs)) ≡ f ∷ fs
unfolding joined
fields-joined f [] a = fields_one f a.0
fields-joined f (g ∷ fs) a = fields_more f (joined (g ∷ fs)) a.0 ∙ ap (λ (l : List (List ℕ)). f ∷ l) (fields-joined g fs a.1)

joined-push : (c : ℕ) (fs : List (List ℕ)) → joined (push c fs) ≡ c ∷ joined fs
unfolding joined push
joined-push c [] = refl
joined-push c (f ∷ []) = refl
joined-push c (f ∷ g ∷ fs) = refl

record Nonempty (fs : List (List ℕ)) : Type 0 where
  pub first : List ℕ
  pub others : List (List ℕ)
  pub parts : fs ≡ first ∷ others

some_field : (l : List ℕ) → Nonempty (fields l)
unfolding fields push
some_field [] = record { first = []; others = []; parts = refl }
some_field (c ∷ l) = elim (test (eqb c 44)) [
  | inl e ↦ record { first = []; others = fields l; parts = rw e }
  | inr e ↦ let n = some_field l in record { first = c ∷ n.first; others = n.others; parts = rw (e, n.parts) }
]

joined-comma : (fs : List (List ℕ)) → Nonempty fs → joined ([] ∷ fs) ≡ 44 ∷ joined fs
unfolding joined
joined-comma [] n = absurd (let z : ◌≡◌ {A = ℕ} 0 1 = cc n.parts in omega arith)
joined-comma (f ∷ fs) n = refl

-- a line's fields joined are the line
pub joined-fields : (l : List ℕ) → joined (fields l) ≡ l
unfolding fields
joined-fields [] = nothing
  where
    nothing : joined ([] ∷ []) ≡ []
    nothing = unfold joined in refl
joined-fields (c ∷ l) = elim (test (eqb c 44)) [
  | inl e ↦ rw (e, joined-comma (fields l) (some_field l), joined-fields l, eqb-true c 44 e)
  | inr e ↦ rw (e, joined-push c (fields l), joined-fields l)
]

-- ---- lines

-- a line in front of other lines
abbrev pub in_front : List ℕ → Option (List (List ℕ)) → Option (List (List ℕ))
in_front l none = none
in_front l (some ls) = some (l ∷ ls)

in-front : (c : ℕ) (l : List ℕ) (o : Option (List (List ℕ))) → in_line c (in_front l o) ≡ in_front (c ∷ l) o
in-front c l none = refl
in-front c l (some ls) = refl

-- no byte is a line feed
abbrev pub OneLine : List ℕ → Type 0
OneLine [] = Unit {0}
OneLine (c ∷ l) = (c ≡ 10 → ⊥) × OneLine l

pub line_read : (l b : List ℕ) → OneLine l → text_lines (l ++ (10 ∷ b)) ≡ in_front l (text_lines b)
unfolding text_lines
line_read [] b u = started (text_lines b)
  where
    started : (o : Option (List (List ℕ))) → new_line o ≡ in_front [] o
    started none = refl
    started (some ls) = refl
line_read (c ∷ l) b u = rw (ne_eqb c 10 u.0, line_read l b u.1) (in-front c l (text_lines b))

unbroken_append : (f g : List ℕ) → OneLine f → OneLine g → OneLine (f ++ g)
unbroken_append [] g p q = q
unbroken_append (c ∷ f) g p q = (p.0, unbroken_append f g p.1 q)

unbroken_above : (f : List ℕ) → Above f → OneLine f
unbroken_above [] a = tt
unbroken_above (c ∷ f) a = ((λ e. omega (arith, a.0)), unbroken_above f a.1)

-- joined fields are one line
pub unbroken_joined : (fs : List (List ℕ)) → AllAbove fs → OneLine (joined fs)
unfolding joined
unbroken_joined [] a = tt
unbroken_joined (f ∷ []) a = unbroken_above f a.0
unbroken_joined (f ∷ g ∷ fs) a = unbroken_append f (44 ∷ joined (g ∷ fs)) (unbroken_above f a.0) ((λ e. omega arith), unbroken_joined (g ∷ fs) a.1)

-- lines, each with its line feed
unfoldable pub ended_lines : List (List ℕ) → List ℕ
ended_lines [] = []
ended_lines (l ∷ ls) = l ++ (10 ∷ ended_lines ls)

-- a text that has lines is those lines
pub lines-text : (b : List ℕ) (ls : List (List ℕ)) → text_lines b ≡ some ls → b ≡ ended_lines ls
unfolding text_lines ended_lines
lines-text [] ls e = let g : [] ≡ ls = cc in rw (← g)
lines-text (c ∷ b) ls e = elim (test (eqb c 10)) [
  | inl t ↦ fresh (text_lines b) (lines-text b) (eqb-true c 10 t) (rw t at e)
  | inr t ↦ longer (text_lines b) (lines-text b) (rw t at e)
]
  where
    fresh : (o : Option (List (List ℕ))) → ((ls : List (List ℕ)) → o ≡ some ls → b ≡ ended_lines ls) → c ≡ 10 → new_line o ≡ some ls → c ∷ b ≡ ended_lines ls
    fresh none h q p = absurd (never_some p)
    fresh (some l) h q p = let g : [] ∷ l ≡ ls = cc in rw (← g, q, ← (h l refl))

    longer : (o : Option (List (List ℕ))) → ((ls : List (List ℕ)) → o ≡ some ls → b ≡ ended_lines ls) → in_line c o ≡ some ls → c ∷ b ≡ ended_lines ls
    longer none h p = absurd (never_some p)
    longer (some []) h p = absurd (never_some p)
    longer (some (l ∷ m)) h p = let g : (c ∷ l) ∷ m ≡ ls = cc in rw (← g) (ap (λ (f : List ℕ). c ∷ f) (h (l ∷ m) refl))
