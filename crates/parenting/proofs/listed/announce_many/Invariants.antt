-- `parenting::listed::announce_many` meets its contract.
use Rattle.words.specs.Words.{words}
use Rattle.lent_lists.specs.Lists.{hashes_in}
use Rattle.announcing.proofs.Listing.{Turned}
use Rattle.parenting.specs.Displacing.{reserve_of}
use Rattle.parenting.proofs.Listing.{supplied_in}
use Rattle.parenting.proofs.listed.announce_many.Given as goal

abbrev pub invariant-loop-i : goal.invariant-loop-i
invariant-loop-i l =
    Turned l.n.number l.clock (hashes_in l.parents) l.initial.s l.initial.out l.out l.kept l.priority l.i
    (supplied_in l.n.number l.s (words l.new.bytes) (words l.q.listed.bytes) l.new.count (reserve_of l.q))
