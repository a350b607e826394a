-- The value of a digit's byte.
use Prim.Native.Nat.{ℕ, ◌+◌, ◌-◌, ◌*◌, ◌/◌, ◌%◌, ◌<◌, ◌≤◌}
use mathlib.Core.Path.{◌≡◌, refl, sym}
use mathlib.Core.Bool.{Bool, true, false, ◌&&◌, ◌||◌}
use native.Mathlib.Omega.{arith}
use lib.Dec.{leb, ltb}
use borrow.Author.Tests.{leb-true, lt-ltb, ltb-true, ltb-false}
use Rattle.std.specs.Prelude.{if◌then◌else◌, Option, None, Some, MatchOption, IfSome, unwrap_or}
use Rattle.machine.specs.Fields.{digit_of}
use Rattle.machine.proofs.Tests.{and_left, and_right}

module _ (c : ℕ) where
  abbrev decimal : Bool
  decimal = leb 48 c && leb c 57

  abbrev letter : Bool
  letter = leb 97 c && leb c 102

  -- the definition's value, where the byte is a decimal digit, a letter, or neither
  abbrev by_tests : Bool → Bool → ℕ
  by_tests p q = if p then c - 48 else if q then c - 87 else 16

  pub digit-test : (decimal || letter) ≡ ltb (digit_of c) 16
  unfolding digit_of
  digit-test = by decimal letter refl refl
    where
      by : (p q : Bool) → decimal ≡ p → letter ≡ q → (p || q) ≡ ltb (by_tests p q) 16
      by true q t u = let m = leb-true c 57 (and_right (leb 48 c) (leb c 57) t) in sym (lt-ltb (c - 48) 16 (omega arith))
      by false true t u = let m = leb-true c 102 (and_right (leb 97 c) (leb c 102) u) in sym (lt-ltb (c - 87) 16 (omega arith))
      by false false t u = refl

  digit-most : digit_of c ≤ 16
  unfolding digit_of
  digit-most = by decimal letter refl refl
    where
      by : (p q : Bool) → decimal ≡ p → letter ≡ q → by_tests p q ≤ 16
      by true q t u = let m = leb-true c 57 (and_right (leb 48 c) (leb c 57) t) in omega arith
      by false true t u = let m = leb-true c 102 (and_right (leb 97 c) (leb c 102) u) in omega arith
      by false false t u = omega arith

  pub digit-none : false ≡ ltb (digit_of c) 16 → 16 ≡ digit_of c
  digit-none e = omega (arith, ltb-false (digit_of c) 16 (sym e), digit-most)

  -- a letter's place in the alphabet stands in its low bits
  pub digit-value : true ≡ ltb (digit_of c) 16 → c % 16 + c / 64 * 9 ≡ digit_of c
  unfolding digit_of
  digit-value e = by decimal letter refl refl (ltb-true _ 16 (sym e))
    where
      by : (p q : Bool) → decimal ≡ p → letter ≡ q → by_tests p q < 16 → c % 16 + c / 64 * 9 ≡ by_tests p q
      by true q t u h =
          let l = leb-true 48 c (and_left (leb 48 c) (leb c 57) t) in
          let m = leb-true c 57 (and_right (leb 48 c) (leb c 57) t) in
          omega arith
      by false true t u h =
          let l = leb-true 97 c (and_left (leb 97 c) (leb c 102) u) in
          let m = leb-true c 102 (and_right (leb 97 c) (leb c 102) u) in
          omega arith
      by false false t u h = absurd (omega arith)

  -- of decimal digits none is above 9
  pub digit-above : 57 < c → 10 ≤ digit_of c
  unfolding digit_of
  digit-above h = by decimal letter refl refl
    where
      by : (p q : Bool) → decimal ≡ p → letter ≡ q → 10 ≤ by_tests p q
      by true q t u = let m = leb-true c 57 (and_right (leb 48 c) (leb c 57) t) in absurd (omega arith)
      by false true t u = let m = leb-true 97 c (and_left (leb 97 c) (leb c 102) u) in omega arith
      by false false t u = omega arith

  -- and up to 9 no letter is
  digit-upto : c ≤ 57 → digit_of c < 16 → digit_of c < 10
  unfolding digit_of
  digit-upto h = by decimal letter refl refl
    where
      by : (p q : Bool) → decimal ≡ p → letter ≡ q → by_tests p q < 16 → by_tests p q < 10
      by true q t u l = omega arith
      by false true t u l = let m = leb-true 97 c (and_left (leb 97 c) (leb c 102) u) in absurd (omega arith)
      by false false t u l = absurd (omega arith)

  pub decimal-digit : c ≤ 57 → (r : Option ℕ) → unwrap_or r 16 ≡ digit_of c → IfSome r (λ d. d < 16) → MatchOption r (10 ≤ digit_of c) (λ d. (d ≡ digit_of c) × (d < 10))
  decimal-digit h None e l = omega arith
  decimal-digit h (Some d) e l = (e, omega (arith, e, l, digit-upto h (omega (arith, e, l))))
