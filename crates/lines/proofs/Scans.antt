-- A field read digit by digit.
use Prim.Native.Nat.{ℕ, suc, ◌+◌, ◌*◌, ◌<◌, ◌≤◌}
use mathlib.Core.Path.{◌≡◌, refl, sym, ◌∙◌}
use mathlib.Core.Bool.{Bool, true, false, ◌&&◌}
use mathlib.Core.Logic.{inl, inr}
use mathlib.Core.List.{List, [], ◌∷◌}
use mathlib.Core.Option.{Option, none, some}
use native.Mathlib.Numerals.{add-one}
use native.Mathlib.Omega.{arith}
use lib.Dec.{ltb}
use lib.ListN.{length, drop, get_or, drop_of_length-le}
use lib.Seq.{drop-cons}
use borrow.Author.Tests.{lt-ltb, le-ltb, ltb-true, ltb-false}
use Rattle.machine.proofs.Tests.{test, and_left, and_right}
use Rattle.machine.specs.Fields.{digit_of, follows, further, numeral_of}
use Rattle.lines.specs.Values.{with_digit}
use Rattle.machine.proofs.Numerals.{further_step, further_stop, further_end, numeral_of_first, numeral_of_not, numeral_of-empty}

pub scan-empty : (b m : ℕ) (f : List ℕ) → length f ≡ 0 → numeral_of b m f ≡ none
scan-empty b m [] e = numeral_of-empty b m
scan-empty b m (c ∷ f) e = absurd (omega arith)

-- ---- one digit more

digit-added : (b m n d : ℕ) → (ltb d b && ltb (n * b + d) m) ≡ true → (d < b) × (n * b + d < m)
digit-added b m n d t = (ltb-true d b (and_left (ltb d b) _ t), ltb-true (n * b + d) m (and_right (ltb d b) _ t))

refused : (b m n d : ℕ) → none ≡ with_digit b m n d → (ltb d b && ltb (n * b + d) m) ≡ false
refused b m n d e = elim (test (ltb d b && ltb (n * b + d) m)) [
  | inl t ↦ absurd (none-some_lem (n * b + d) (rw t at e))
  | inr t ↦ t
]
  where
    none-some_lem : (x : ℕ) → ◌≡◌ {A = Option ℕ} none (some x) → ⊥
    none-some_lem x z = cc

added : (b m n d x : ℕ) → some x ≡ with_digit b m n d → ((ltb d b && ltb (n * b + d) m) ≡ true) × (x ≡ n * b + d)
added b m n d x e = elim (test (ltb d b && ltb (n * b + d) m)) [
  | inl t ↦ (t, same_some (rw t at e))
  | inr t ↦ absurd (some-none_lem (rw t at e))
]
  where
    same_some : ◌≡◌ {A = Option ℕ} (some x) (some (n * b + d)) → x ≡ n * b + d
    same_some z = cc

    some-none_lem : ◌≡◌ {A = Option ℕ} (some x) none → ⊥
    some-none_lem z = cc

clash : true ≡ false → ⊥
clash e = cc

-- ---- the loop of the reader of numbers and hashes

module _ (b m : ℕ) {f r : List ℕ} where
  module _ {c : ℕ} (g : f ≡ c ∷ r) where
    pub first_none : b ≤ digit_of c → none ≡ numeral_of b m f
    first_none h = rw g (sym (numeral_of_not b m c r h))

    module _ (l : b ≤ m) {z d : ℕ} (e : d ≡ digit_of c) (o : z ≡ 0) where
      below_limit : d < b → (ltb d b && ltb (z * b + d) m) ≡ true
      below_limit h = rw (o, lt-ltb d b h, lt-ltb (0 * b + d) m (omega arith))

      pub first_refused : none ≡ with_digit b m z d → none ≡ numeral_of b m f
      first_refused w = elim (test (ltb d b)) [
        | inl t ↦ let u : ◌≡◌ {A = Bool} true false = sym (below_limit (ltb-true d b t)) ∙ refused b m z d w in absurd (clash u)
        | inr t ↦ let u = ltb-false d b t in rw g (sym (numeral_of_not b m c r (omega arith)))
      ]

      pub first_read : {n : ℕ} → some n ≡ with_digit b m z d → (n ≡ d) × (numeral_of b m f ≡ further b m n r)
      first_read {n} w =
          let p = added b m z d n w in
          let h = digit-added b m z d p.0 in
          let q : n ≡ d = omega (arith, rw o at p.1) in
          (q, rw (g, q, e) (numeral_of_first b m c r (omega (arith, h.0))))

module _ (b m : ℕ) (f r : List ℕ) (a i : ℕ) where
  module _ (v : numeral_of b m f ≡ further b m a (drop i r)) where
    pub all_read : length r ≤ i → some a ≡ numeral_of b m f
    all_read h = sym (v ∙ rw (drop_of_length-le r h) (further_end b m a))

    module _ (h : i < length r) where
      stops : follows b m a (get_or r i 0) ≡ false → none ≡ numeral_of b m f
      stops t = sym (v ∙ rw (drop-cons r i 0 h) (further_stop b m a (get_or r i 0) (drop (suc i) r) t))

      pub zero_first : a ≡ 0 → none ≡ numeral_of b m f
      zero_first z = stops (rw (le-ltb 0 a (omega arith)))

      pub next_none : b ≤ digit_of (get_or r i 0) → none ≡ numeral_of b m f
      next_none l = stops (rw (le-ltb (digit_of (get_or r i 0)) b l) (and-false (ltb 0 a)))
        where
          and-false : (p : Bool) → (p && false) ≡ false
          and-false true = refl
          and-false false = refl

      module _ (o : 0 < a) {d : ℕ} (e : d ≡ digit_of (get_or r i 0)) where
        pub next_refused : none ≡ with_digit b m a d → none ≡ numeral_of b m f
        next_refused w = stops (rw (lt-ltb 0 a o, ← e) (refused b m a d w))

        pub next_read : {n : ℕ} → some n ≡ with_digit b m a d → (0 < n) × (numeral_of b m f ≡ further b m n (drop (i + 1) r))
        next_read {n} w =
            let p = added b m a d n w in
            let u = digit-added b m a d p.0 in
            (grind (arith, u.0, p.1), v ∙ rw (drop-cons r i 0 h, add-one, p.1, e) (further_step b m a (get_or r i 0) (drop (suc i) r) (rw (lt-ltb 0 a o, ← e) p.0)))
