-- `wrapping::offering::announce_transactions` meets its contract.
use mathlib.Core.Path.{◌∙◌}
use native.Mathlib.Omega.{arith}
use Rattle.machine.specs.Typed.{Each, OfferTyped}
use Rattle.wrapping.proofs.Asked.{peer_of}
use Rattle.lent_lists.specs.Items.{offers_in}
use Rattle.lent_lists.proofs.Inventory.{offers-fit}
use Rattle.wrapping.specs.declared.offering.Terms.{Terms}
use Rattle.wrapping.proofs.Batching.{batched_start, batched_kept, batched_more, batched_done}
use Rattle.wrapping.proofs.offering.announce_transactions.Goals as goal

pub returns-then-count-eq0 : goal.returns-then-count-eq0
returns-then-count-eq0 c =
    let a : Terms = record { connection = c.args.n; clock = c.args.clock; preferred = c.args.preferred; source = c.args.source; late = c.overloaded-late.result } in
    batched_done (batched_start a _ _) (omega (arith, c.if-count-eq0.true, c.count-count.ensures))

pub announce_part-next-requires : goal.announce_part-next-requires
announce_part-next-requires c =
    let a : Terms = record { connection = c.args.n; clock = c.args.clock; preferred = c.args.preferred; source = c.args.source; late = c.overloaded-late.result } in
    let os = offers_in c.args.items.now c.args.priorities.now in
    let peer = peer_of c.args.n (omega arith) in
    let typed : Each OfferTyped os = offers-fit c.args.items.now c.args.priorities.now
    (λ j. omega (arith, c.type_inv.items j)) (λ j. omega (arith, c.type_inv.priorities j)) in
    let begun = batched_more (batched_start a os c.args.s.now) peer typed c.overloaded-late.ensures c.announce_part-i.ensures c.announce_part-i.auto.s in (
      batched_kept (c.loop-i.invariant.2 c.args.s.now c.overloaded-late.ensures begun) peer typed c.requires,
      omega (arith, c.loop-i-test.true, c.count-count.ensures),
    )

pub loop-i-preserved : goal.loop-i-preserved
loop-i-preserved c =
    let os = offers_in c.args.items.now c.args.priorities.now in
    let peer = peer_of c.args.n (omega arith) in
    let typed : Each OfferTyped os = offers-fit c.args.items.now c.args.priorities.now
    (λ j. omega (arith, c.type_inv.items j)) (λ j. omega (arith, c.type_inv.priorities j)) in (
      c.announce_part-next.auto.s ∙ c.loop-i.invariant.0,
      c.announce_part-next.ensures.inside,
      λ u f b. batched_more (c.loop-i.invariant.2 u f b) peer typed f c.announce_part-next.ensures c.announce_part-next.auto.s,
    )

pub returns : goal.returns
returns c =
    let a : Terms = record { connection = c.args.n; clock = c.args.clock; preferred = c.args.preferred; source = c.args.source; late = c.overloaded-late.result } in
    let os = offers_in c.args.items.now c.args.priorities.now in
    let peer = peer_of c.args.n (omega arith) in
    let typed : Each OfferTyped os = offers-fit c.args.items.now c.args.priorities.now
    (λ j. omega (arith, c.type_inv.items j)) (λ j. omega (arith, c.type_inv.priorities j)) in
    let begun = batched_more (batched_start a os c.args.s.now) peer typed c.overloaded-late.ensures c.announce_part-i.ensures c.announce_part-i.auto.s in
    batched_done (c.loop-i.invariant.2 c.args.s.now c.overloaded-late.ensures begun) (omega (
      arith,
      c.loop-i.invariant.1,
      c.loop-i-test.false,
      c.count-count.ensures,
    ))
