-- The candidates of a connection cut under the keys of a part of the buffer, as the code does it.
use Prim.Native.Nat.{ℕ, ◌-◌, ◌≤◌, ◌<◌}
use mathlib.Core.Path.{◌≡◌, refl}
use mathlib.Core.List.{List}
use native.Mathlib.Omega.{arith}
use Rattle.ident.specs.Number.{Key}
use Rattle.requests.specs.Changes.{Makes}
use Rattle.cutting.specs.Cuts.{between, cuts}
use Rattle.leaving.specs.Parting.{key_out, CutListed}

module _ (n : ℕ) (u : List ℕ) (from to : ℕ) where
  pub listed-cut : {b b₁ : List ℕ} {x y : Key} → from < to → x ≡ key_out u from → y ≡ key_out u (to - 1) → Makes b b₁ (λ t. Unit {0}) (cuts n (between x y)) → CutListed n u from to b b₁
  listed-cut h p q m = record { some = λ l. rw (p, q) at m; none = λ l. absurd (omega arith) }

  pub nothing-listed : {b : List ℕ} → to ≤ from → CutListed n u from to b b
  nothing-listed h = record { some = λ l. absurd (omega arith); none = λ l. refl }
