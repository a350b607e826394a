-- `announcing::parents::announce_parents` meets its contract.
use Rattle.lent_lists.specs.Lists.{hashes_in}
use Rattle.announcing.proofs.Listing.{Turned, written_in}
use Rattle.announcing.proofs.parents.announce_parents.Given as goal

abbrev pub invariant-loop-i : goal.invariant-loop-i
invariant-loop-i l = Turned l.n.number l.clock (hashes_in l.parents) l.initial.s l.initial.out l.out l.kept l.priority l.i (written_in l.s)
