-- `printing::holdings::put_owners` meets its contract.
use Rattle.lent_lists.specs.Lists.{hashes_in}
use Rattle.printing.proofs.OwnerLists.{Telling}
use Rattle.printing.proofs.holdings.put_owners.Given as goal

abbrev pub invariant-loop-i : goal.invariant-loop-i
invariant-loop-i l = Telling (hashes_in l.hashes) l.answer l.initial.out l.out l.initial.to l.to l.i
