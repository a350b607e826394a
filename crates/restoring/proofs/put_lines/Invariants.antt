-- `restoring::put_lines` meets its contract. The loop's invariant: with the lines that were read, the store has what those that are left do not bring.
use Prim.Native.Nat.{◌-◌}
use mathlib.Core.Path.{◌≡◌}
use lib.ListN.{length}
use Rattle.restoring.proofs.Walking.{Walked}
use Rattle.restoring.proofs.put_lines.Given as goal

abbrev pub invariant-loop-line : goal.invariant-loop-line
invariant-loop-line l = (l.lines.text ≡ l.initial.lines.text) × Walked l.lines.text.now l.initial.s l.s l.initial.lines.at l.lines.at l.last

abbrev pub decreases-loop-line : goal.decreases-loop-line
decreases-loop-line l = length l.lines.text.now - l.lines.at
