-- What the parts of the code say of a payload's count.
use Rattle.std.specs.Prelude.{ℕ, ◌+◌, ◌*◌, ◌≤◌, ◌≡◌, List, length, drop, Option, None, Some}
use Rattle.std.proofs.Math.Option.{none, some}
use Rattle.words.specs.Words.{recs}
use Rattle.wire.specs.Payload.{max_items, wire_bytes, wire_item, items_after, items_of}

-- b begins with the count n in its shortest form, which ends before a
pub record Begins (b : List ℕ) (n a : ℕ) : Type 0 where
  pub start : a ≤ 3
  pub inside : a ≤ length b
  pub items : items_of b ≡ items_after n (drop a b)

-- b is the payload of n items, which begin at a
pub record Holds (b : List ℕ) (n a : ℕ) : Type 0 where
  pub few : n ≤ max_items
  pub start : a ≤ 3
  pub whole : length b ≡ a + wire_bytes * n
  pub items : items_of b ≡ some (recs wire_bytes wire_item n (drop a b))

abbrev pub Counted : List ℕ → Option (ℕ × ℕ) → Type 0
Counted b None = items_of b ≡ none
Counted b (Some p) = Holds b p.0 p.1
