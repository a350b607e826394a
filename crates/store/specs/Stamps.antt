-- Rows from one index to another, each changed in the same way.
use Rattle.std.specs.Prelude.{ℕ, ◌+◌, ◌%◌, List, ◌++◌, map, take, drop}
use Rattle.regions.specs.declared.Row.{Row}
use Rattle.regions.specs.Rows.{with_bits}

-- the row with the mark, which is bit 4 of its bits
abbrev pub marked_row : Row → Row
marked_row r = with_bits (r.bits % 16 + 16) r

-- g of each of the elements from .. to
unfoldable pub map_in : {A : Type 0} → (A → A) → ℕ → ℕ → List A → List A
map_in g from to l = take from l ++ (map g (drop from (take to l)) ++ drop to l)
