-- How many bytes a line's fields have.
use Prim.Native.Nat.{ℕ, suc, ◌+◌, ◌≤◌}
use mathlib.Core.Path.{◌≡◌, refl, ap, ◌∙◌}
use mathlib.Core.List.{List, [], ◌∷◌}
use mathlib.Core.Option.{Option, none, some}
use native.Mathlib.Omega.{arith}
use lib.Dec.{leb, eqb}
use lib.ListN.{length, drop, length-drop}
use borrow.Author.Tests.{leb-true}
use Rattle.machine.proofs.Tests.{by_test}
use Rattle.machine.specs.Fields.{numeral_of, push, fields, rest, with_value}
use Rattle.reading.specs.Line.{Line}
use Rattle.reading.specs.Given.{bytes}

bytes-push : (c : ℕ) (fs : List (List ℕ)) → 1 ≤ bytes fs → bytes (push c fs) ≡ suc (bytes fs)
unfolding bytes push
bytes-push c [] h = absurd (omega arith)
bytes-push c (f ∷ fs) h = omega arith

bytes-fields : (l : List ℕ) → bytes (fields l) ≡ suc (length l)
unfolding bytes fields
bytes-fields [] = refl
bytes-fields (c ∷ l) =
    by_test (λ (fs : List (List ℕ)). bytes fs ≡ suc (suc (length l))) (eqb c 44)
    (λ e. omega (arith, bytes-fields l)) (λ e. bytes-push c (fields l) (omega (arith, bytes-fields l)) ∙ ap suc (bytes-fields l))

pub bytes_rest : (l : List ℕ) (e : ℕ) → bytes (rest l (e + 1)) ≤ length l
unfolding bytes rest
bytes_rest l e =
    by_test (λ (fs : List (List ℕ)). bytes fs ≤ length l) (leb (e + 1) (length l))
    (λ t. omega (arith, leb-true (e + 1) (length l) t, bytes-fields (drop (e + 1) l), length-drop (e + 1) l)) (λ t. omega arith)

-- ---- a field that is read is not empty

pub numeral_some : (b m : ℕ) (g : List ℕ) (p : ℕ) → numeral_of b m g ≡ some p → 1 ≤ length g
unfolding numeral_of
numeral_some b m [] p e = let z : ◌≡◌ {A = ℕ} 0 1 = cc in absurd (omega arith)
numeral_some b m (c ∷ g) p e = omega arith

-- what none of its values makes a call of is no call
pub no_value : {A : Type 0} (o : Option A) (k : A → Option Line) → ((v : A) → o ≡ some v → k v ≡ none) → with_value o k ≡ none
no_value none k h = refl
no_value (some v) k h = h v refl
