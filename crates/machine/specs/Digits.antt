-- Document 02, request f: "which bytes are digits, with what value, and each value's digit". Of the two definitions that readers and writers of digits are
-- proved against: the value of a byte (`digit_of`, 16 for a byte that is no digit) and the byte of a value (`digit_text`).
use Rattle.std.specs.Prelude.{ℕ, ◌+◌, ◌-◌, ◌<◌, ◌≤◌, ◌≡◌}
use Rattle.machine.specs.Fields.{digit_of}
use Rattle.machine.specs.Text.{digit_text}

pub record Digits : Type 0 where
  -- "which bytes are digits, with what value": `0` to `9` are 0 to 9, `a` to `f` are 10 to 15
  pub figures : (c : ℕ) → 48 ≤ c → c ≤ 57 → digit_of c ≡ c - 48
  pub letters : (c : ℕ) → 97 ≤ c → c ≤ 102 → digit_of c ≡ c - 97 + 10
  -- no other byte is one
  pub below : (c : ℕ) → c < 48 → digit_of c ≡ 16
  pub between : (c : ℕ) → 57 < c → c < 97 → digit_of c ≡ 16
  pub above : (c : ℕ) → 102 < c → digit_of c ≡ 16
  -- "and each value's digit": `0` to `9` below 10, then `a` to `f`
  pub low : (d : ℕ) → d < 10 → digit_text d ≡ 48 + d
  pub high : (d : ℕ) → 10 ≤ d → d < 16 → digit_text d ≡ 97 + (d - 10)
  -- each value has one digit, each digit one value
  pub back : (d : ℕ) → d < 16 → digit_of (digit_text d) ≡ d
  pub one : (c : ℕ) → digit_of c < 16 → digit_text (digit_of c) ≡ c
