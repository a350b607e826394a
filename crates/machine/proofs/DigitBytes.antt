-- Digits and their bytes.
use Prim.Native.Nat.{ℕ, ◌+◌, ◌-◌, ◌<◌, ◌≤◌}
use mathlib.Core.Path.{◌≡◌}
use mathlib.Core.Bool.{◌&&◌}
use mathlib.Core.Logic.{inl, inr}
use native.Mathlib.Omega.{arith}
use lib.Dec.{ltb, leb}
use borrow.Author.Tests.{ltb-true, ltb-false, leb-true, le-leb, lt-leb, lt-ltb, le-ltb}
use Rattle.machine.proofs.Tests.{test, and_left, and_right}
use Rattle.machine.specs.Text.{digit_text}
use Rattle.machine.specs.Fields.{digit_of}
use Rattle.machine.specs.Digits.{Digits}

-- ---- the bytes of digits, and the bytes between and around them

pub digit-figure : (c : ℕ) → 48 ≤ c → c ≤ 57 → digit_of c ≡ c - 48
unfolding digit_of
digit-figure c l u = rw (le-leb 48 c l, le-leb c 57 u)

pub digit-letter : (c : ℕ) → 97 ≤ c → c ≤ 102 → digit_of c ≡ c - 97 + 10
unfolding digit_of
digit-letter c l u = rw (le-leb 48 c (omega arith), lt-leb c 57 (omega arith), le-leb 97 c l, le-leb c 102 u) (omega arith)

pub digit_below : (c : ℕ) → c < 48 → digit_of c ≡ 16
unfolding digit_of
digit_below c u = rw (lt-leb 48 c u, lt-leb 97 c (omega arith))

pub digit-between : (c : ℕ) → 57 < c → c < 97 → digit_of c ≡ 16
unfolding digit_of
digit-between c l u = rw (le-leb 48 c (omega arith), lt-leb c 57 l, lt-leb 97 c u)

pub digit_above : (c : ℕ) → 102 < c → digit_of c ≡ 16
unfolding digit_of
digit_above c l = rw (le-leb 48 c (omega arith), lt-leb c 57 (omega arith), le-leb 97 c (omega arith), lt-leb c 102 l)

-- ---- a digit and its byte

-- the digit of a digit's byte
pub digit-text : (d : ℕ) → d < 16 → digit_of (digit_text d) ≡ d
unfolding digit_of digit_text
digit-text d h = elim (test (ltb d 10)) [
  | inl e ↦ let l = ltb-true d 10 e in rw (e, le-leb 48 (48 + d) (omega arith), le-leb (48 + d) 57 (omega arith)) (omega arith)
  | inr e ↦ let l = ltb-false d 10 e in rw (e, le-leb 48 (87 + d) (omega arith), lt-leb (87 + d) 57 (omega arith), le-leb 97 (87 + d) (omega arith), le-leb (87 + d) 102 (omega arith)) (omega arith)
]

-- a digit's byte is the one byte of the digit
pub text-digit : (c : ℕ) → digit_of c < 16 → digit_text (digit_of c) ≡ c
unfolding digit_of digit_text
text-digit c h = elim (test (leb 48 c && leb c 57)) [
  | inl e ↦
      let l : 48 ≤ c = leb-true 48 c (and_left (leb 48 c) (leb c 57) e) in
      let u : c ≤ 57 = leb-true c 57 (and_right (leb 48 c) (leb c 57) e) in
      rw (e, lt-ltb (c - 48) 10 (omega arith)) (omega arith)
  | inr e ↦ elim (test (leb 97 c && leb c 102)) [
    | inl e' ↦
        let l : 97 ≤ c = leb-true 97 c (and_left (leb 97 c) (leb c 102) e') in
        let u : c ≤ 102 = leb-true c 102 (and_right (leb 97 c) (leb c 102) e') in
        rw (e, e', le-ltb (c - 87) 10 (omega arith)) (omega arith)
    | inr e' ↦ let g : 16 < 16 = rw (e, e') at h in absurd (omega arith)
  ]
]

pub text-figure : (d : ℕ) → d < 10 → digit_text d ≡ 48 + d
unfolding digit_text
text-figure d h = rw (lt-ltb d 10 h)

pub text-letter : (d : ℕ) → 10 ≤ d → digit_text d ≡ 97 - 10 + d
unfolding digit_text
text-letter d h = rw (le-ltb d 10 h)

-- ---- request f of document 02: all of it in one place

text-high : (d : ℕ) → 10 ≤ d → d < 16 → digit_text d ≡ 97 + (d - 10)
text-high d l u = omega (arith, text-letter d l)

pub digits : Digits
digits = record {
  figures = digit-figure;
  letters = digit-letter;
  below = digit_below;
  between = digit-between;
  above = digit_above;
  low = text-figure;
  high = text-high;
  back = digit-text;
  one = text-digit;
}
