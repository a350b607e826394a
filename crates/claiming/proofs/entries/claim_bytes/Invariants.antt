-- `claiming::entries::claim_bytes` meets its contract.
use Prim.Native.Nat.{◌-◌, ◌/◌, ◌≤◌}
use lib.ListN.{length}
use Rattle.machine.specs.Call.{entry_bytes}
use Rattle.claiming.specs.Claiming.{entries_from, entries_in}
use Rattle.claiming.proofs.Going.{Turning}
use Rattle.claiming.proofs.entries.claim_bytes.Given as goal

abbrev pub invariant-loop-i : goal.invariant-loop-i
invariant-loop-i l = (l.i ≤ length l.checked / entry_bytes) × Turning l.clock.time (entries_in l.checked)
    (entries_from l.checked l.i (length l.checked / entry_bytes - l.i)) l.initial.s l.s l.initial.out l.out l.n l.i
