-- What a writer leaves; texts behind commas, and the room of numbers and keys.
use Rattle.std.specs.Prelude.{ℕ, ◌+◌, ◌≡◌, List, [], ◌∷◌, ◌++◌, length}
use Rattle.words.specs.Words.{splice}
use Rattle.machine.specs.Text.{decimal_digits, hash_digits}

-- the text from index a on, and the index behind it
pub record Wrote (s s' : List ℕ) (a : ℕ) (text : List ℕ) (r : ℕ) : Type 0 where
  pub bytes : s' ≡ splice s a text
  pub next : r ≡ a + length text

-- texts that follow others: each behind a comma
unfoldable pub with_commas : List (List ℕ) → List ℕ
with_commas [] = []
with_commas (t ∷ ts) = 44 ∷ (t ++ with_commas ts)

-- the most bytes of a comma and a number; of a letter and a hash
abbrev pub number_room : ℕ
number_room = 1 + decimal_digits

abbrev pub key_room : ℕ
key_room = 1 + hash_digits
