use Prim.Native.Nat.{◌≤◌}
use Rattle.words.specs.Words.{words}
use Rattle.words.proofs.Zeros.{Seen}
use Rattle.words.proofs.is_zero.Given as goal

abbrev pub invariant-loop-k : goal.invariant-loop-k
invariant-loop-k l = (l.a ≤ l.k) × (l.k ≤ l.b) × Seen (words l.s) l.a l.k l.seen
