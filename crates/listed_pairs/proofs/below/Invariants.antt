-- `listed_pairs::below` meets its contract. The loop's invariant: the requests that were passed come to nothing.
use Prim.Native.Nat.{◌-◌}
use mathlib.Core.Path.{◌≡◌}
use lib.ListN.{length}
use Rattle.regions.specs.Rows.{quad_number}
use Rattle.listed_pairs.specs.Given.{Below}
use Rattle.listed_pairs.proofs.below.Given as goal

abbrev pub invariant-loop-r : goal.invariant-loop-r
invariant-loop-r l = (l.lines ≡ l.behind) × (l.lines.text ≡ l.initial.lines.text) × Below l.lines.text.now l.initial.lines.at l.lines.at (quad_number l.k)

abbrev pub decreases-loop-r : goal.decreases-loop-r
decreases-loop-r l = length l.behind.text.now - l.behind.at
