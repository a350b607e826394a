-- `apart::slots::forget` meets its contract.
use Prim.Native.Nat.{◌≤◌}
use mathlib.Core.Path.{◌≡◌}
use lib.ListN.{length}
use Rattle.apart.proofs.Forgetting.{ForgottenTo}
use Rattle.apart.proofs.slots.forget.Given as goal

abbrev pub invariant-loop-i : goal.invariant-loop-i
invariant-loop-i l = (l.i ≤ l.n) × (length l.s ≡ length l.initial.s) × (length l.first ≡ length l.initial.first) × ForgottenTo l.initial.s l.s l.initial.first l.first l.m l.i
