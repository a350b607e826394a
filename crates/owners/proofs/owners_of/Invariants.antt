-- `owners::owners_of` meets its contract.
use Rattle.lent_lists.specs.Lists.{hashes_in}
use Rattle.owners.proofs.Turns.{Walking}
use Rattle.owners.proofs.owners_of.Given as goal

abbrev pub invariant-loop-p : goal.invariant-loop-p
invariant-loop-p l = Walking l.s (hashes_in l.hashes) l.m l.initial.out l.out l.i l.j l.passed l.p
