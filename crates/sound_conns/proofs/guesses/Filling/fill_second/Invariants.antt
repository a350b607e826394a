use Prim.Native.Nat.{◌≤◌}
use Rattle.sound_conns.proofs.guesses.Filling.fill_second.Given as goal

abbrev pub invariant-loop-j : goal.invariant-loop-j
invariant-loop-j l = l.lost ≤ l.j
