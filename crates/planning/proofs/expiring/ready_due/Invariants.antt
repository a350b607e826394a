-- `planning::expiring::ready_due` meets its contract.
use Prim.Native.Nat.{◌+◌, ◌-◌, ◌≤◌}
use mathlib.Core.Path.{◌≡◌}
use lib.ListN.{length}
use Rattle.ident.specs.Number.{top}
use Rattle.planning.proofs.Readying.{ReadyWay}
use Rattle.planning.specs.Expiring.{behind}
use Rattle.planning.proofs.expiring.ready_due.Given as goal

abbrev pub invariant-loop-due : goal.invariant-loop-due
invariant-loop-due l = (length l.s ≡ length l.initial.s) × (behind l.done ≤ top + top) × ReadyWay l.initial.s l.s l.clock (behind l.done)

abbrev pub decreases-loop-due : goal.decreases-loop-due
decreases-loop-due l = top + top + 1 - behind l.done
