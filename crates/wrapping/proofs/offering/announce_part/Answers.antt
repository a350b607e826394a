-- `wrapping::offering::announce_part` meets its contract.
use native.Mathlib.Omega.{arith}
use Rattle.lent_lists.specs.Items.{offers_in}
use Rattle.wrapping.proofs.Asked.{peer_of, batch_typed}
use Rattle.wrapping.proofs.Swapped.{went_kept, went_then}
use Rattle.wrapping.proofs.offering.announce_part.Goals as goal

pub announce_some-requires-2 : goal.announce_some-requires-2
announce_some-requires-2 c =
    let os = offers_in c.args.b.items.now
    c.args.b.priorities.now in
    let peer = peer_of c.args.b.terms.connection (omega (arith, c.well_formed.1.0)) in
    let typed = batch_typed c.args.b in (
      went_kept c.announce_for_victims-next.ensures peer
          typed c.requires.0,
      c.requires.1,
    )

pub returns : goal.returns
returns c =
    let os = offers_in c.args.b.items.now
    c.args.b.priorities.now in
    let peer = peer_of c.args.b.terms.connection (omega (arith, c.well_formed.1.0)) in
    let typed = batch_typed c.args.b in
    went_then c.announce_for_victims-next.ensures peer
    typed
    (omega (arith, c.if-first-next.false)) c.announce_some-2.ensures
