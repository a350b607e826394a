-- `saving::candidate_lines::put_candidates` meets its contract. The loop's invariant: the rows before i are done.
use Prim.Native.Nat.{◌+◌, ◌*◌, ◌≤◌}
use mathlib.Core.Path.{◌≡◌}
use lib.ListN.{length}
use Rattle.saving.specs.Laid.{candidate_room}
use Rattle.saving.proofs.Candidates.{Rows}
use Rattle.saving.proofs.candidate_lines.put_candidates.Given as goal

abbrev pub invariant-loop-i : goal.invariant-loop-i
invariant-loop-i l = (l.from ≤ l.i) × (l.i ≤ l.to) × (length l.out ≡ length l.initial.out) × (l.e + candidate_room * l.from ≤ l.at + candidate_room * l.i)
    × Rows l.s l.from l.initial.out l.at l.out l.i l.e
