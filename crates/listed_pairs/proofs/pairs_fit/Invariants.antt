-- `listed_pairs::pairs_fit` meets its contract. The loop's invariant: the requests that are left pass where all of them do.
use Prim.Native.Nat.{◌-◌, ◌+◌}
use mathlib.Core.Path.{◌≡◌}
use lib.ListN.{length}
use Rattle.listed_pairs.proofs.Comparing.{Underway}
use Rattle.listed_pairs.proofs.pairs_fit.Given as goal

abbrev pub invariant-loop-front : goal.invariant-loop-front
invariant-loop-front l = (l.front.text ≡ l.lines.text) × (l.back.text ≡ l.lines.text) × Underway l.lines.text.now l.lines.at l.front.at l.back.at

abbrev pub decreases-loop-front : goal.decreases-loop-front
decreases-loop-front l = (length l.lines.text.now - l.front.at) + (length l.lines.text.now - l.back.at)
