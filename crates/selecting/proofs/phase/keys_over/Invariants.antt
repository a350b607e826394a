-- `selecting::phase::keys_over` meets its contract.
use Prim.Native.Nat.{◌-◌, ◌≤◌}
use mathlib.Core.Path.{◌≡◌}
use lib.ListN.{length}
use Rattle.store.specs.Flat.{rows_of}
use Rattle.sweeping.specs.Batches.{keys_over}
use Rattle.selecting.specs.Phasing.{Scans}
use Rattle.selecting.proofs.phase.keys_over.Given as goal

abbrev pub invariant-loop-i : goal.invariant-loop-i
invariant-loop-i l = ((l.rows.from ≤ l.i) × (l.i ≤ l.rows.to)) × (length l.s ≡ length l.initial.s) × (length l.picks ≡ length l.initial.picks)
    × Scans l.initial.s l.s l.initial.picks l.picks l.clock.time (λ st. keys_over l.rows.from l.rows.to (rows_of st.table)) (λ st. keys_over l.i l.rows.to (rows_of st.table)) l.initial.w.scan l.w.scan
    (l.i - l.rows.from)
