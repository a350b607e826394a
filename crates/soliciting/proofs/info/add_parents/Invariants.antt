-- `soliciting::info::add_parents` meets its contract.
use Rattle.ident.specs.Words.{hash_num}
use Rattle.lent_lists.specs.Lists.{hashes_in}
use Rattle.soliciting.proofs.Adding.{Added}
use Rattle.soliciting.proofs.info.add_parents.Given as goal

abbrev pub invariant-loop-i : goal.invariant-loop-i
invariant-loop-i l = Added (hash_num l.h) (hashes_in l.parents) l.initial.s l.s l.i
