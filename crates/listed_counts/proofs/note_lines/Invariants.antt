-- `listed_counts::note_lines` meets its contract. The loop's invariant: what is left of the lines, from the counters as they are, comes to the same as all of them.
use Prim.Native.Nat.{◌-◌, ◌≤◌}
use mathlib.Core.Path.{◌≡◌}
use mathlib.Core.Bool.{true, false}
use lib.ListN.{length}
use Rattle.heavy.specs.Counters.{names_in, counts_in, sum}
use Rattle.listed_counts.proofs.Lines.{Noting}
use Rattle.listed_counts.proofs.note_lines.Given as goal

abbrev pub invariant-loop-front : goal.invariant-loop-front
invariant-loop-front l =
    (l.lines.text ≡ l.initial.lines.text) × (sum (counts_in l.connections) ≤ l.lines.at) × (sum (counts_in l.owners) ≤ l.lines.at)
    × Noting l.lines.text.now l.initial.lines.at false (names_in l.initial.connections) (counts_in l.initial.connections) l.lines.at (names_in l.connections) (counts_in l.connections)
    × Noting l.lines.text.now l.initial.lines.at true (names_in l.initial.owners) (counts_in l.initial.owners) l.lines.at (names_in l.owners) (counts_in l.owners)

abbrev pub decreases-loop-front : goal.decreases-loop-front
decreases-loop-front l = length l.lines.text.now - l.lines.at
