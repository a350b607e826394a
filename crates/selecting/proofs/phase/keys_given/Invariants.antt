-- `selecting::phase::keys_given` meets its contract.
use Prim.Native.Nat.{◌/◌, ◌≤◌}
use mathlib.Core.Path.{◌≡◌}
use lib.ListN.{length, drop}
use Rattle.machine.specs.Call.{key_bytes}
use Rattle.selecting.specs.Phasing.{given_keys, Scans}
use Rattle.selecting.proofs.phase.keys_given.Given as goal

abbrev pub invariant-loop-i : goal.invariant-loop-i
invariant-loop-i l = (l.i ≤ length l.given / key_bytes) × (length l.s ≡ length l.initial.s) × (length l.picks ≡ length l.initial.picks)
    × Scans l.initial.s l.s l.initial.picks l.picks l.clock.time (λ st. given_keys l.given) (λ st. drop l.i (given_keys l.given)) l.initial.w l.w l.i
