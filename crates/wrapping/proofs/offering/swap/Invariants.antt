-- `wrapping::offering::swap` meets its contract.
use Rattle.words.specs.Words.{words}
use Rattle.lent_lists.specs.Items.{offers_in}
use Rattle.wrapping.specs.Swaps.{Swaps}
use Rattle.wrapping.proofs.offering.swap.Given as goal

abbrev pub invariant-loop-i : goal.invariant-loop-i
invariant-loop-i l = Swaps l.s (words l.new.bytes) (words l.top.bytes) l.top.count l.b.terms (offers_in l.b.items.now l.b.priorities.now) l.first l.i l.new.count
