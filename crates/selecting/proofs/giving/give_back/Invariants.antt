-- `selecting::giving::give_back` meets its contract.
use Prim.Native.Nat.{ℕ, ◌≤◌}
use mathlib.Core.Path.{◌≡◌}
use mathlib.Core.List.{List}
use lib.ListN.{length}
use Rattle.machine.specs.State.{Entry, State}
use Rattle.machine.specs.Sound.{Sound}
use Rattle.selecting.specs.Selecting.{Marks}
use Rattle.selecting.proofs.GivingBack.{Back}
use Rattle.selecting.proofs.giving.give_back.Given as goal

abbrev pub invariant-loop-j : goal.invariant-loop-j
invariant-loop-j l = (l.j ≤ length l.picks) × (length l.s ≡ length l.initial.s) × ((now : ℕ) (st : State) (es : List Entry) → Sound st → Marks now st es l.initial.s l.picks
    (length l.picks) → Back now st es l.s l.j)
