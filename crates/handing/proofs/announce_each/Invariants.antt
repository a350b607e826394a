use Rattle.lent_lists.specs.Lists.{hashes_in}
use Rattle.handing.proofs.Announcing.{Handing}
use Rattle.handing.proofs.announce_each.Given as goal

abbrev pub invariant-loop-number : goal.invariant-loop-number
invariant-loop-number l = Handing l.clock (hashes_in l.list) l.conns l.initial.s l.s l.initial.u l.u l.c l.r l.number-index
