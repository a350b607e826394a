-- `parenting::joining::mark_rows` meets its contract.
use mathlib.Core.Path.{◌≡◌}
use lib.ListN.{length}
use Rattle.words.specs.Words.{words}
use Rattle.parenting.proofs.Waiting.{MarkedSoFar}
use Rattle.parenting.proofs.joining.mark_rows.Given as goal

abbrev pub invariant-loop-i : goal.invariant-loop-i
invariant-loop-i l = (length l.s ≡ length l.initial.s) × MarkedSoFar l.initial.s l.s (words l.rows.bytes.now) l.rows.count l.i
