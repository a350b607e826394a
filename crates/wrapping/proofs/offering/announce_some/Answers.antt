-- `wrapping::offering::announce_some` meets its contract.
use Prim.Native.Nat.{◌+◌}
use native.Mathlib.Omega.{arith}
use Rattle.lent_lists.specs.Items.{offers_in}
use Rattle.wrapping.proofs.Asked.{peer_of, batch_typed}
use Rattle.wrapping.proofs.Gathered.{collects_in, part_kept, part_join}
use Rattle.wrapping.proofs.offering.announce_some.Goals as goal

pub announce_one-requires-then-next-count : goal.announce_one-requires-then-next-count
announce_one-requires-then-next-count c =
    let os = offers_in
    c.args.b.items.now
    c.args.b.priorities.now
    in
    let peer = peer_of c.args.b.terms.connection (omega (arith, c.well_formed.1.0)) in
    let typed = batch_typed c.args.b in
    let came = collects_in c.collect-next.ensures (rw (c.new.ensures.0, c.new.ensures.1) at c.come_in.ensures) in (
      part_kept c.args.b.terms os
          c.args.first
          c.collect-next.result came peer
          typed
          c.requires.0,
      omega (arith, c.if-next-count.true, c.count-count.ensures),
    )

pub returns-then-next-count : goal.returns-then-next-count
returns-then-next-count c =
    let os = offers_in c.args.b.items.now c.args.b.priorities.now in
    let peer = peer_of c.args.b.terms.connection (omega (arith, c.well_formed.1.0)) in
    let typed = batch_typed c.args.b in
    let came = collects_in c.collect-next.ensures (rw (c.new.ensures.0, c.new.ensures.1) at c.come_in.ensures) in
    record {
      more = omega (arith, c.collect-next.ensures.from);
      inside = omega (
        arith,
        c.if-next-count.true,
        c.count-count.ensures,
      );
      table = part_join c.args.b.terms os c.args.first c.collect-next.result came peer
          typed (c.collect-next.result + 1)
          c.collect-next.ensures.from (omega arith) c.announce_one-then-next-count.ensures;
    }
