-- What the contracts of searches that begin at a guess say.
use Rattle.std.specs.Prelude.{ℕ, ◌≤◌, ◌<◌, List, get_or}
use Rattle.regions.specs.Order.{Sorted}

-- of n keys, if they are in order, those before r are below x
pub record Behind (ks : List ℕ) (n x r : ℕ) : Type 0 where
  pub most : r ≤ n
  pub below : Sorted ks → (j : ℕ) → j < r → get_or ks j 0 < x
