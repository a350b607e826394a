-- `inventory::offers::read_offers` meets its contract. The loop's invariant: the first i offers are read.
use mathlib.Core.Path.{refl, ap, ◌∙◌}
use native.Mathlib.Omega.{arith}
use Rattle.reading.specs.Lists.{offer_then}
use Rattle.reading.specs.Given.{item_at, number_at}
use Rattle.reading.proofs.Elements.{none_read, no-element, one_more_lem}
use Rattle.inventory.proofs.Offering.{no_item, no-priority, offer_is, none_yet, offer-put}
use Rattle.inventory.proofs.offers.read_offers.Goals as goal

pub loop-i-init : goal.loop-i-init
loop-i-init c = (
  omega arith,
  omega arith,
  omega arith,
  none_read offer_then c.args.line.now c.args.e c.args.n
      (none_yet c.args.items.now c.args.priorities.now),
)

pub returns-in_err-item : goal.returns-in_err-item
returns-in_err-item c = rw c.from_residual.ensures (record { is = no-element c.loop-i.invariant.3 (omega arith) (no_item c.item_at.ensures (ap item_at c.in_err-item.was)) refl })

pub returns-in_err-priority : goal.returns-in_err-priority
returns-in_err-priority c =
    rw c.from_residual-in_err-priority.ensures (record {
      is = no-element c.loop-i.invariant.3 (omega arith)
          (no-priority c.item_at.ensures (ap item_at c.in_ok-item.was) c.number_at.ensures
          (ap number_at c.in_err-priority.was)) refl;
    })

pub loop-i-preserved : goal.loop-i-preserved
loop-i-preserved c =
    let p = c.item_at.ensures in
    let z = ap item_at c.in_ok-item.was in
    let o = offer_is p z c.number_at.ensures
    (ap number_at c.in_ok-priority.was) in (
      omega arith,
      c.put_offer.auto.items
          ∙ c.loop-i.invariant.1,
      c.put_offer.auto.priorities
          ∙ c.loop-i.invariant.2,
      one_more_lem c.loop-i.invariant.3 (omega arith) o refl
          (offer-put p z c.put_offer.ensures),
    )
