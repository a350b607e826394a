-- `wrapping::offering::announce_for_victims` meets its contract.
use native.Mathlib.Omega.{arith}
use lib.Dec.{ltb}
use borrow.Author.Tests.{ltb-true}
use Rattle.machine.proofs.Tests.{and_right}
use Rattle.lent_lists.specs.Items.{offers_in}
use Rattle.wrapping.proofs.Asked.{peer_of, batch_typed}
use Rattle.wrapping.proofs.Swapped.{went-nobody, went_kept, went_one}
use Rattle.wrapping.proofs.offering.announce_for_victims.Goals as goal

pub returns-then-m-eq0 : goal.returns-then-m-eq0
returns-then-m-eq0 c = went-nobody c.args.b.terms (offers_in
    c.args.b.items.now
    c.args.b.priorities.now)
    c.args.first
    c.requires.1 (c.list.ensures.2 (omega
    (arith, c.if-m-eq0.true, c.min-most.ensures))) c.if-m-eq0.true
    c.requires.2
    c.requires.3
    c.count-count.ensures

pub announce_one-requires : goal.announce_one-requires
announce_one-requires c =
    let peer = peer_of c.args.b.terms.connection (omega (arith, c.well_formed.1.0)) in
    let more = ltb-true _ _ (and_right (ltb c.settle-end.new.new.count c.list.new.self.count) (ltb c.settle-end.result c.count-count.result) c.if-new-m-2.true) in (
      went_kept c.settle-end.ensures.went peer (batch_typed c.args.b) c.requires.0,
      omega (arith, more, c.count-count.ensures),
    )

pub returns-then-new-m-2 : goal.returns-then-new-m-2
returns-then-new-m-2 c =
    let peer = peer_of c.args.b.terms.connection (omega (arith, c.well_formed.1.0)) in
    let more = ltb-true _ _ (and_right (ltb c.settle-end.new.new.count c.list.new.self.count) (ltb c.settle-end.result c.count-count.result) c.if-new-m-2.true) in
    went_one c.settle-end.ensures.went peer (batch_typed c.args.b) (omega (arith, more, c.count-count.ensures)) c.announce_one.ensures
