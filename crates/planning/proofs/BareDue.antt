-- The owners that are due are the same without packages.
use Prim.Native.Nat.{ℕ}
use mathlib.Core.Path.{◌≡◌, refl, ap}
use mathlib.Core.List.{List, [], ◌∷◌, ◌++◌}
use Rattle.machine.specs.State.{Table}
use Rattle.machine.specs.Plan.{Due}
use Rattle.apart.specs.Bare.{bare}
use Rattle.planning.specs.Expiring.{due_here, due_from}

pub due_from_bare : (now x : ℕ) (t : Table) → due_from now x (bare t) ≡ due_from now x t
unfolding due_from bare
due_from_bare now x [] = refl
due_from_bare now x (r ∷ t) = ap (λ (l : List Due). due_here now x r ++ l) (due_from_bare now x t)
