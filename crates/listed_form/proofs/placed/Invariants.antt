-- `listed_form::placed` meets its contract. The loop's invariant: the lines that are left, from what has been met, are placed where all of them are.
use Prim.Native.Nat.{◌-◌}
use mathlib.Core.Path.{◌≡◌}
use lib.ListN.{length}
use Rattle.listed_form.specs.Given.{met_of}
use Rattle.listed_form.proofs.Forms.{Scanned}
use Rattle.listed_form.proofs.placed.Given as goal

abbrev pub invariant-loop-line : goal.invariant-loop-line
invariant-loop-line l = (l.lines.text ≡ l.initial.lines.text) × Scanned l.lines.text.now l.initial.lines.at (met_of l.last) l.lines.at

abbrev pub decreases-loop-line : goal.decreases-loop-line
decreases-loop-line l = length l.lines.text.now - l.lines.at
