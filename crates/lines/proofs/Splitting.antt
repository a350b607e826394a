-- A line's fields, one after the other.
use Prim.Native.Nat.{ℕ, suc, ◌+◌, ◌-◌, ◌<◌, ◌≤◌}
use mathlib.Core.Path.{◌≡◌, sym, ◌∙◌}
use mathlib.Core.Logic.{inl, inr}
use mathlib.Core.List.{List, [], ◌∷◌}
use native.Mathlib.Omega.{arith}
use lib.Dec.{eqb, ltb, leb, leb-suc-suc}
use lib.ListN.{length, take, drop, length-drop}
use lib.Seq.{drop-drop}
use borrow.Author.Tests.{leb-true, leb-false, le-leb, lt-leb, eqb-true, eqb-false, lt-ltb, le-ltb}
use Rattle.std.specs.Prelude.{if◌then◌else◌}
use Rattle.machine.proofs.Tests.{test}
use Rattle.machine.specs.Fields.{before, behind, push, fields, rest}
use Rattle.machine.proofs.Parting.{take-before, before-nil, before-skip, before-met, behind-skip, behind-met}

-- the first field, and the fields behind its comma
abbrev split : List ℕ → List (List ℕ)
split s = before 44 s ∷ (if ltb (length (before 44 s)) (length s) then fields (behind 44 s) else [])

fields_split : (s : List ℕ) → fields s ≡ split s
unfolding fields push
fields_split [] = rw before-nil
fields_split (c ∷ s) = elim (test (eqb c 44)) [
  | inl t ↦ let e = eqb-true c 44 t in rw (e, before-met 44 s, behind-met 44 s, lt-ltb 0 (suc (length s)) (omega arith))
  | inr t ↦ let n = eqb-false c 44 t in rw (t, before-skip 44 c s n, behind-skip 44 c s n, fields_split s, leb-suc-suc (suc (length (before 44 s))) (length s))
]

cons : {f g : List ℕ} {r s : List (List ℕ)} → f ≡ g → r ≡ s → f ∷ r ≡ g ∷ s
cons p q = cc

rest_from : (l : List ℕ) (p : ℕ) → p ≤ length l → rest l p ≡ fields (drop p l)
unfolding rest
rest_from l p h = rw (le-leb p (length l) h)

module _ (l : List ℕ) (p e : ℕ) (h : p ≤ length l) (g : e ≡ p + length (before 44 (drop p l))) where
  field_is : before 44 (drop p l) ≡ take (e - p) (drop p l)
  field_is = let n : e - p ≡ length (before 44 (drop p l)) = omega arith in rw n (sym (take-before 44 (drop p l)))

  fields-behind : (if ltb (length (before 44 (drop p l))) (length (drop p l)) then fields (behind 44 (drop p l)) else []) ≡ rest l (e + 1)
  unfolding rest behind
  fields-behind =
      let d = length-drop p l in
      elim (test (leb (e + 1) (length l))) [
        | inl t ↦
            let m = leb-true (e + 1) (length l) t in
            let q : p + (length (before 44 (drop p l)) + 1) ≡ e + 1 = omega arith in
            rw (t, lt-ltb (length (before 44 (drop p l))) (length (drop p l)) (omega arith), drop-drop, q)
        | inr t ↦
            let m = leb-false (e + 1) (length l) t in
            rw (t, le-ltb (length (before 44 (drop p l))) (length (drop p l)) (omega arith))
      ]

  -- the field from p on ends at e
  pub rest_field : rest l p ≡ take (e - p) (drop p l) ∷ rest l (e + 1)
  rest_field = rest_from l p h ∙ fields_split (drop p l) ∙ cons field_is fields-behind

pub rest_past : (l : List ℕ) (p : ℕ) → length l < p → rest l p ≡ []
unfolding rest
rest_past l p h = rw (lt-leb p (length l) h)

pub rest_start : (l : List ℕ) → rest l 0 ≡ fields l
unfolding rest
rest_start l = rw (le-leb 0 (length l) (omega arith))
