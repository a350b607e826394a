-- `regions::start_at` meets its contract.
use mathlib.Core.Path.{sym, ap, ◌∙◌}
use Prim.Native.Nat.{ℕ, ◌+◌}
use native.Mathlib.Omega.{arith}
use Rattle.std.proofs.Math.Nat.{min-eq_left}
use Rattle.regions.proofs.Numbered.{behind_all}
use Rattle.regions.proofs.start_at.Goals as goal

pub returns-in-Included : goal.returns-in-Included
returns-in-Included c = rw c.in-Included.is (c.key_with.ensures.0 ∙ sym (min-eq_left (omega (arith, c.key_with.ensures.1))))

pub returns-in-Excluded : goal.returns-in-Excluded
returns-in-Excluded c =
    let k = c.key_with-in-Excluded.ensures in
    rw c.in-Excluded.is (ap (λ (m : ℕ). m + 1) k.0 ∙ sym (min-eq_left (omega (arith, k.1))))

pub returns-in-Included-2 : goal.returns-in-Included-2
returns-in-Included-2 c = rw c.in-Included.is (behind_all c.in-Included.hash c.if-kind-lt2.false _ (omega arith))

pub returns-in-Included-2-2 : goal.returns-in-Included-2-2
returns-in-Included-2-2 c = rw c.in-Excluded.is (behind_all c.in-Excluded.hash c.if-kind-lt2-2.false _ (omega arith))
