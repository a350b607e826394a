-- `planning::expiring::expire_each` meets its contract.
use Prim.Native.Nat.{◌+◌, ◌-◌, ◌≤◌}
use mathlib.Core.Path.{◌≡◌}
use lib.ListN.{length}
use Rattle.ident.specs.Number.{top}
use Rattle.apart.specs.Delayed.{delay_of}
use Rattle.planning.proofs.AllExpired.{AllOnTheWay}
use Rattle.planning.specs.Expiring.{behind}
use Rattle.planning.proofs.expiring.expire_each.Given as goal

abbrev pub invariant-loop-due : goal.invariant-loop-due
invariant-loop-due l = (length l.s ≡ length l.initial.s) × (behind l.last ≤ top + top) × (l.known.noted ≤ l.c)
    × AllOnTheWay l.initial.s l.s l.initial.first l.first l.m l.c l.clock (behind l.last) (delay_of l.delayed) l.known

abbrev pub decreases-loop-due : goal.decreases-loop-due
decreases-loop-due l = top + top + 1 - behind l.last
