-- `planning::noted::consider_bits` meets its contract.
use Prim.Native.Nat.{◌-◌, ◌≤◌}
use mathlib.Core.Path.{◌≡◌}
use lib.ListN.{length}
use Rattle.words.specs.Words.{words}
use Rattle.apart.specs.Noting.{hashes_at, picked}
use Rattle.selecting.specs.Phasing.{Scans}
use Rattle.planning.proofs.noted.consider_bits.Given as goal

abbrev pub invariant-loop-j : goal.invariant-loop-j
invariant-loop-j l = ((l.from ≤ l.j) × (l.j ≤ l.to)) × (length l.s ≡ length l.initial.s) × (length l.picks ≡ length l.initial.picks) × Scans l.initial.s l.s l.initial.picks l.picks l.clock.time
    (λ st. picked (hashes_at (words l.slot) l.from (l.to - l.from)) l.bits) (λ st. picked (hashes_at (words l.slot) l.j (l.to - l.j)) l.left) l.initial.w l.w (l.j - l.from)
