-- `selecting::giving::put_entries` meets its contract.
use Prim.Native.Nat.{ℕ, ◌≤◌, ◌<◌}
use mathlib.Core.Path.{◌≡◌}
use mathlib.Core.List.{List}
use lib.ListN.{length, get_or, take}
use Rattle.machine.specs.State.{Entry}
use Rattle.machine.specs.Step.{entries_answer, written}
use Rattle.store.specs.Flat.{Flat}
use Rattle.store.specs.Image.{Shows}
use Rattle.selecting.specs.Selecting.{Numbered}
use Rattle.selecting.proofs.giving.put_entries.Given as goal

abbrev pub invariant-loop-j : goal.invariant-loop-j
invariant-loop-j l = (l.j ≤ length l.numbers) × (length l.out ≡ length l.initial.out)
    × ((f : Flat) (es : List Entry) → Shows l.s f → length l.numbers ≡ length es → ((k : ℕ) (d : Entry) → k < length l.numbers → Numbered f.rows (get_or l.numbers k 0)
    (get_or es k d)) → l.out ≡ written
    (entries_answer (take l.j es)) l.initial.out)
