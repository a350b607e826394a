-- `listed_pairs::first_wtxid` meets its contract. The loop's invariant: the requests before these lines are Txid requests.
use Prim.Native.Nat.{◌-◌}
use mathlib.Core.Path.{◌≡◌}
use lib.ListN.{length}
use Rattle.listed_pairs.proofs.Seeking.{Searched}
use Rattle.listed_pairs.proofs.first_wtxid.Given as goal

abbrev pub invariant-loop-lines : goal.invariant-loop-lines
invariant-loop-lines l = (l.lines.text ≡ l.initial.lines.text) × Searched l.lines.text.now l.initial.lines.at l.lines.at

abbrev pub decreases-loop-lines : goal.decreases-loop-lines
decreases-loop-lines l = length l.lines.text.now - l.lines.at
