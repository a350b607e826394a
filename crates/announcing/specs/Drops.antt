-- Rows that pass a test taken out in one pass: those that stay move to the front, and those that go are counted out.
use Rattle.std.specs.Prelude.{ℕ, ◌+◌, ◌≤◌, ◌≡◌, Bool, List, [], ◌∷◌, ◌++◌, length, get_or, set, if◌then◌else◌}
use Rattle.regions.specs.declared.Row.{Row}
use Rattle.machine.specs.State.{State}
use Rattle.requests.specs.Changes.{Shorn}

-- what stays of a row
unfoldable pub kept_row : (Row → Bool) → Row → List Row
kept_row p r = if p r then [] else r ∷ []

-- what stays of it, put at m
abbrev pub put_at : ℕ → List Row → List Row → List Row
put_at m [] xs = xs
put_at m (x ∷ l) xs = set xs m x

-- the i-th row is put at m, or goes
pub record RowKept (b b' : List ℕ) (p : Row → Bool) (m i m' : ℕ) : Type 0 where
  pub least : m ≤ m'
  pub most : m' ≤ m + 1
  pub count : (st : State) (xs ls : List Row) (r : Row) → Shorn b st xs ls → get_or xs i r ≡ r → m' ≡ m + length (kept_row p r)
  pub rows : (st : State) (xs x : List Row) (r : Row) (y : List Row) → Shorn b st xs (x ++ (r ∷ y)) → get_or xs i r ≡ r → Shorn b' st (put_at m (kept_row p r) xs) (x ++ (kept_row p r ++ y))
