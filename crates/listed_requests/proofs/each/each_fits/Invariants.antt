-- `listed_requests::each::each_fits` meets its contract. The loop's invariant: the requests that are left pass where all of them do.
use Prim.Native.Nat.{◌≤◌, ◌-◌}
use mathlib.Core.Path.{◌≡◌}
use lib.ListN.{length}
use Rattle.listed_requests.proofs.Advancing.{Underway}
use Rattle.listed_requests.proofs.each.each_fits.Given as goal

abbrev pub invariant-loop-lines : goal.invariant-loop-lines
invariant-loop-lines l =
    (l.lines.text ≡ l.initial.lines.text) × (l.pass.held ≤ l.limit) × (l.pass.taken ≤ l.places)
    × Underway l.lines.text.now l.initial.lines.at l.limit l.places l.pass l.lines.at

abbrev pub decreases-loop-lines : goal.decreases-loop-lines
decreases-loop-lines l = length l.lines.text.now - l.lines.at
