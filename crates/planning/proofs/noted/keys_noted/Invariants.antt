-- `planning::noted::keys_noted` meets its contract.
use Prim.Native.Nat.{◌≤◌}
use mathlib.Core.Path.{◌≡◌}
use lib.ListN.{length}
use Rattle.planning.specs.Noting.{NotedScans}
use Rattle.planning.proofs.noted.keys_noted.Given as goal

abbrev pub invariant-loop-i : goal.invariant-loop-i
invariant-loop-i l = (l.i ≤ l.e) × (length l.s ≡ length l.initial.s) × (length l.picks ≡ length l.initial.picks)
    × NotedScans l.initial.s l.s l.first l.m l.e l.i l.initial.picks l.picks l.clock.time l.initial.w l.w
