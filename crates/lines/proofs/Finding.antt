-- Where a byte first stands.
use Prim.Native.Nat.{ℕ, zero, suc, ◌+◌, ◌-◌, ◌<◌, ◌≤◌}
use mathlib.Core.Path.{◌≡◌, refl, sym, ap, ◌∙◌}
use mathlib.Core.Bool.{Bool, true, false, cond, ◌||◌}
use mathlib.Core.Logic.{inl, inr}
use mathlib.Core.List.{List, [], ◌∷◌}
use native.Mathlib.Numerals.{add-one}
use native.Mathlib.Omega.{arith}
use lib.Dec.{eqb, ltb}
use lib.ListN.{length, take, drop, get_or, drop_of_length-le, length-drop}
use lib.Seq.{drop-cons, drop-drop}
use borrow.Author.Tests.{ltb-false}
use Rattle.std.specs.Prelude.{if◌then◌else◌, Option, Some, None, MatchOption}
use Rattle.std.specs.List.{position, position_or_len}
use Rattle.std.proofs.lemmas.List.Recursion.{is_position_or_len}
use Rattle.machine.proofs.Tests.{test, never}
use Rattle.machine.proofs.Parting.{before-length}
use Rattle.machine.specs.Claim.{elem}
use Rattle.machine.specs.Fields.{before}

before_first : (x : ℕ) (s : List ℕ) → length (before x s) ≡ position_or_len (λ c. eqb c x) s
unfolding before
before_first x s = is_position_or_len (λ t. length (before x t)) (λ c. eqb c x) refl (λ c t. step c (before x t) (eqb c x)) s
  where
    step : (c : ℕ) (t : List ℕ) (b : Bool) → length (if b then [] else c ∷ t) ≡ cond b 0 (1 + length t)
    step c t true = refl
    step c t false = omega arith

found_lem : (x : ℕ) (s : List ℕ) {r : Option ℕ} → r ≡ position (λ c. eqb c x) s → MatchOption r (length (before x s) ≡ length s) (λ i. i ≡ length (before x s))
found_lem x s e = rw e (found (before_first x s))
  where
    found : {p : ℕ} → length (before x s) ≡ p → MatchOption (cond (ltb p (length s)) (Some p) None) (length (before x s) ≡ length s) (λ i. i ≡ length (before x s))
    found {p} g = elim (test (ltb p (length s))) [
      | inl t ↦ rw t (omega arith)
      | inr t ↦ rw t (omega (arith, ltb-false p (length s) t, before-length x s))
    ]

-- behind the first bytes, as many as `from`
pub first_at : (x : ℕ) (s : List ℕ) (from : ℕ) {i : ℕ} {r : Option ℕ} → r ≡ Some i → r ≡ position (λ c. eqb c x) s → from + i ≡ from + length (before x s)
first_at x s from e g = omega (arith, rw e at (found_lem x s g))

pub none_at : (x : ℕ) (s : List ℕ) {r : Option ℕ} → r ≡ None → r ≡ position (λ c. eqb c x) s → length (before x s) ≡ length s
none_at x s e g = rw e at (found_lem x s g)

-- ---- bytes among which it does not stand are passed

elem-step : (x c : ℕ) (s : List ℕ) → elem x (c ∷ s) ≡ (eqb c x || elem x s)
unfolding elem
elem-step x c s = refl

elem-none : (x : ℕ) → elem x [] ≡ false
unfolding elem
elem-none x = refl

pub absent : (x k : ℕ) (s : List ℕ) → k ≤ length s → elem x (take k s) ≡ false → length (before x s) ≡ k + length (before x (drop k s))
unfolding before elem
absent x zero s h e = omega arith
absent x (suc k) [] h e = absurd (omega arith)
absent x (suc k) (c ∷ s) h e = elim (test (eqb c x)) [
  | inl t ↦ let d : true ≡ false = rw t at e in never (sym d)
  | inr t ↦ let d : elem x (take k s) ≡ false = rw t at e in rw t (omega (arith, absent x k s (omega arith) d))
]

-- ---- whether it stands among them

-- as far as index i
pub record Looked (s : List ℕ) (x i : ℕ) (found : Bool) : Type 0 where
  pub is : elem x s ≡ (found || elem x (drop i s))

pub looked_none : (s : List ℕ) (x : ℕ) → Looked s x 0 false
looked_none s x = record { is = refl }

or-assoc : (p q r : Bool) → (p || (q || r)) ≡ ((p || q) || r)
or-assoc true q r = refl
or-assoc false q r = refl

or-false : (p : Bool) → (p || false) ≡ p
or-false true = refl
or-false false = refl

module _ {s : List ℕ} {x i : ℕ} {found : Bool} (l : Looked s x i found) where
  pub looked_on : i < length s → Looked s x (i + 1) (found || eqb (get_or s i 0) x)
  looked_on h = record {
    is = l.is ∙ rw (drop-cons s i 0 h, elem-step x (get_or s i 0) (drop (suc i) s), add-one) (or-assoc found (eqb (get_or s i 0) x) (elem x (drop (suc i) s)));
  }

  pub looked_all : length s ≤ i → found ≡ elem x s
  looked_all h = sym (l.is ∙ rw (drop_of_length-le s h, elem-none x) (or-false found))

-- ---- passing blocks

-- nothing was found up to index at
pub record Passed (s : List ℕ) (from x at : ℕ) : Type 0 where
  pub inside : at ≤ length s
  pub same : from + length (before x (drop from s)) ≡ at + length (before x (drop at s))

pub passed_none : (s : List ℕ) (from x : ℕ) → from ≤ length s → Passed s from x from
passed_none s from x h = record { inside = h; same = refl }

module _ {s : List ℕ} {from x at : ℕ} (p : Passed s from x at) where
  pub passed_on : (k : ℕ) → k ≤ length s - at → elem x (take k (drop at s)) ≡ false → Passed s from x (at + k)
  passed_on k h e =
      let d : drop k (drop at s) ≡ drop (at + k) s = rw (drop-drop) refl in
      let l = length-drop at s in
      record {
        inside = omega (arith, p.inside);
        same = p.same ∙ omega (arith, absent x k (drop at s) (omega (arith, p.inside)) e, ap (λ (t : List ℕ). length (before x t)) d);
      }

  pub passed_found : {r : ℕ} → r ≡ at + length (before x (drop at s)) → r ≡ from + length (before x (drop from s))
  passed_found e = e ∙ sym p.same
