-- `gathering::coming::count_each` meets its contract.
use Rattle.words.specs.Words.{words}
use Rattle.gathering.proofs.CountingIn.{Counting}
use Rattle.gathering.proofs.coming.count_each.Given as goal

abbrev pub invariant-loop-i : goal.invariant-loop-i
invariant-loop-i l = Counting l.initial.s l.s (words l.new.bytes.now) l.new.count l.i
