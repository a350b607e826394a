-- `listed_requests::candidates::gather` meets its contract. The loop's invariant: the candidates of the lines that were taken are gathered.
use Prim.Native.Nat.{◌≤◌, ◌-◌}
use mathlib.Core.Path.{◌≡◌}
use lib.ListN.{length}
use Rattle.listed_form.specs.Given.{key_in}
use Rattle.listed_requests.specs.Given.{most_gathered}
use Rattle.listed_requests.proofs.Gathering.{Gone}
use Rattle.listed_requests.proofs.candidates.gather.Given as goal

abbrev pub invariant-loop-c : goal.invariant-loop-c
invariant-loop-c l =
    (l.lines.text ≡ l.initial.lines.text) × (l.initial.lines.at ≤ l.lines.at) × (l.count ≤ most_gathered)
    × Gone l.lines.text.now l.initial.lines.at (key_in l.key) l.n l.initial.room.conns.now l.room.conns.now l.count l.fit l.lines.at

abbrev pub decreases-loop-c : goal.decreases-loop-c
decreases-loop-c l = length l.lines.text.now - l.lines.at
