-- `lines::read::word` meets its contract.
use Rattle.lines.proofs.HashWords.{Reading}
use Rattle.lines.proofs.read.word.Given as goal

abbrev pub invariant-loop-c : goal.invariant-loop-c
invariant-loop-c l = Reading l.f l.c-index l.n
