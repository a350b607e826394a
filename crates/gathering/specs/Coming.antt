-- Rows that have come in, and are still to be counted to their connections.
use Rattle.std.specs.Prelude.{ℕ, ◌+◌, ◌≤◌, ◌≡◌, List, length, take}
use Rattle.regions.specs.declared.Row.{Row}
use Rattle.regions.specs.Regions.{Holds}
use Rattle.regions.specs.Rows.{row_size, row_words}
use Rattle.machine.specs.Typed.{Each}
use Rattle.store.specs.Flat.{Flat, own_bit, tally}
use Rattle.store.specs.Image.{Shows}
use Rattle.store.specs.Shown.{Sized}
use Rattle.gathering.specs.Merges.{merged}

-- a row that does not own its request
abbrev pub Bare : Row → Type 0
Bare r = own_bit r ≡ 0

-- f with the rows ys among its own, the first j of them counted
abbrev pub counted : Flat → List Row → ℕ → Flat
counted f ys j = record { head = f.head; rows = merged f.rows ys; conns = tally (merged f.rows (take j ys)); places = f.places }

-- the bytes b show a flat state with the m rows in the words v among its own, none of them counted
pub record Uncounted (b v : List ℕ) (m : ℕ) : Type 0 where
  pub flat : Flat
  pub sized : Sized flat
  pub rows : List Row
  pub count : length rows ≡ m
  pub bare : Each Bare rows
  pub space : ℕ
  pub holds : Holds row_size row_words space rows v
  pub room : length flat.rows + m ≤ flat.head.limit
  pub shows : Shows b (counted flat rows 0)

-- whatever flat state that is, b' show it with all of them counted
abbrev pub CountedTo : List ℕ → List ℕ → List ℕ → ℕ → ℕ → Type 0
CountedTo b b' v m j = (f : Flat) (M : ℕ) (ys : List Row) → length ys ≡ m → Each Bare ys → Holds row_size row_words M ys v → Shows b (counted f ys 0) → Shows b' (counted f ys j)
