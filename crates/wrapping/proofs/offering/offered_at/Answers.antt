-- `wrapping::offering::offered_at` meets its contract.
use mathlib.Core.Path.{ap, ◌∙◌}
use native.Mathlib.Omega.{arith}
use Rattle.words.specs.Words.{words}
use Rattle.words.proofs.Words.{length-words}
use Rattle.machine.specs.Wrapper.{Offer, offered}
use Rattle.lent_lists.specs.Items.{items_in}
use Rattle.lent_lists.proofs.Inventory.{paired-inside}
use Rattle.wrapping.proofs.Batching.{offer_is}
use Rattle.wrapping.proofs.offering.offered_at.Goals as goal

pub item_at-item-requires : goal.item_at-item-requires
item_at-item-requires c = omega (arith, c.requires, paired-inside (items_in c.args.b.items.now) (words c.args.b.priorities.now))

pub get-priority-requires : goal.get-priority-requires
get-priority-requires c = omega (
  arith,
  c.requires,
  paired-inside (items_in c.args.b.items.now) (words
      c.args.b.priorities.now),
  length-words c.args.b.priorities.now,
)

pub returns : goal.returns
returns c = λ d.
    let a = c.args.b.terms in
    c.offered.ensures ∙ ap (λ (o : Offer). offered a.connection.number a.clock.time a.preferred a.source a.late o)
    (offer_is c.args.b.items.now c.args.b.priorities.now
    c.args.i c.requires c.item_at-item.ensures c.get-priority.ensures d)
