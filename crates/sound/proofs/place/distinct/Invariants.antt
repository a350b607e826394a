use Prim.Native.Nat.{◌≤◌}
use Rattle.words.specs.Words.{words}
use Rattle.machine.specs.Sound.{NoRepeat}
use Rattle.sound.specs.Places.{hashes_in}
use Rattle.sound.proofs.Marks.{Marked}
use Rattle.sound.proofs.place.distinct.Given as goal

abbrev pub invariant-loop-k : goal.invariant-loop-k
invariant-loop-k l = (l.k ≤ l.n) × NoRepeat (hashes_in (words l.s) l.a l.k l.n) × Marked l.mark l.slots (hashes_in (words l.s) l.a l.k l.n)
