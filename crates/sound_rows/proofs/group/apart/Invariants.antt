use Prim.Native.Nat.{◌≤◌}
use Rattle.words.specs.Words.{words}
use Rattle.sound_rows.specs.Groups.{rows_in, Apart}
use Rattle.sound_rows.specs.Parts.{rows_of}
use Rattle.sound_rows.proofs.Decide.{Iff}
use Rattle.sound_rows.proofs.group.apart.Given as goal

abbrev pub invariant-loop-k : goal.invariant-loop-k
invariant-loop-k l = (l.mine.from ≤ l.k) × (l.k ≤ l.mine.to) × Iff (Apart (rows_of l.others) (rows_of l.mine)) (Apart (rows_of l.others) (rows_in (words l.mine.rows.bytes.now) l.k l.mine.to))
