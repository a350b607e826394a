-- What is said of the time of the next look (document 02, request c): proved in proofs/Later.
use Rattle.std.specs.Prelude.{ℕ, ◌≤◌, ◌<◌, ◌≡◌, true, List}
use Rattle.std.proofs.Math.Option.{Option, none, some}
use Rattle.machine.specs.Claim.{elem}

-- there is a time, and it is x or sooner
unfoldable pub AtMost : Option ℕ → ℕ → Type 0
AtMost none x = ⊥
AtMost (some y) x = y ≤ x

-- x is later than now, and one of these times
pub record Among (now x : ℕ) (l : List ℕ) : Type 0 where
  pub later : now < x
  pub one_of : elem x l ≡ true
