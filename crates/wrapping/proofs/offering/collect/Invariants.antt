-- `wrapping::offering::collect` meets its contract.
use Rattle.words.specs.Words.{words}
use Rattle.lent_lists.specs.Items.{offers_in}
use Rattle.wrapping.specs.Batches.{Collects}
use Rattle.wrapping.proofs.offering.collect.Given as goal

abbrev pub invariant-loop-i : goal.invariant-loop-i
invariant-loop-i l = Collects l.s (words l.new.bytes) l.b.terms (offers_in l.b.items.now l.b.priorities.now) l.first l.i l.new.count
