use Prim.Native.Nat.{◌+◌, ◌≤◌}
use Rattle.sound_conns.proofs.guesses.near.Given as goal

abbrev pub invariant-loop-wide : goal.invariant-loop-wide
invariant-loop-wide l = l.base + l.wide ≤ l.pass.conns.count

abbrev pub decreases-loop-wide : goal.decreases-loop-wide
decreases-loop-wide l = l.wide
