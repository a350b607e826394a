-- `saving::request_lines::next_hashes` meets its contract. The loop's invariant: the first j hashes are done.
use Prim.Native.Nat.{◌+◌, ◌≤◌}
use Rattle.saving.specs.Laid.{hashes_room}
use Rattle.saving.proofs.Places.{Hashes}
use Rattle.saving.proofs.request_lines.next_hashes.Given as goal

abbrev pub invariant-loop-j : goal.invariant-loop-j
invariant-loop-j g l = (l.j ≤ l.n) × (l.e ≤ l.at + hashes_room l.j) × Hashes (goal.F-post g l.hash) l.n l.initial.out l.at l.out l.j l.e
