-- `lines::read::stands` meets its contract.
use Rattle.lines.proofs.Finding.{Looked}
use Rattle.lines.proofs.read.stands.Given as goal

abbrev pub invariant-loop-c : goal.invariant-loop-c
invariant-loop-c l = Looked l.s l.x l.c-index l.found
