-- Two texts compared byte by byte.
use Prim.Native.Nat.{ℕ}
use mathlib.Core.Path.{◌≡◌, refl, ap}
use mathlib.Core.Bool.{Bool, ◌&&◌}
use mathlib.Core.List.{List, [], ◌∷◌}
use lib.Dec.{eqb}
use lib.Pointwise.{pointwise}
use Rattle.machine.specs.Fields.{same_text}

pub pointwise-same : (s t : List ℕ) → pointwise eqb s t ≡ same_text s t
unfolding same_text
pointwise-same [] [] = refl
pointwise-same [] (b ∷ t) = refl
pointwise-same (a ∷ s) [] = refl
pointwise-same (a ∷ s) (b ∷ t) = ap (λ (p : Bool). eqb a b && p) (pointwise-same s t)
