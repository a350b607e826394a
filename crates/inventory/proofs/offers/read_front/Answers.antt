-- `inventory::offers::read_front` meets its contract.
use mathlib.Core.Path.{refl, ap}
use native.Mathlib.Omega.{arith}
use Rattle.reading.specs.Lists.{offer_then}
use Rattle.reading.specs.Given.{number_at}
use Rattle.reading.proofs.Elements.{no-count, too_long, no-list, more_fields, list_is}
use Rattle.inventory.proofs.Sizes.{offer-takes}
use Rattle.inventory.proofs.Offering.{no-front, front-is}
use Rattle.inventory.proofs.offers.read_front.Goals as goal

pub returns-in_err-count : goal.returns-in_err-count
returns-in_err-count c = rw c.from_residual.ensures (no-front (no-count offer_then c.number_at.ensures (ap number_at c.in_err-count.was)))

pub returns-then-count : goal.returns-then-count
returns-then-count c =
    no-front (too_long offer_then c.number_at.ensures (ap number_at c.in_ok-count.was) offer-takes
    (omega (arith, c.requires.0, c.if-count.true)))

pub returns-in_err-end : goal.returns-in_err-end
returns-in_err-end c =
    rw c.from_residual-in_err-end.ensures (no-front (no-list offer_then c.number_at.ensures
    (ap number_at c.in_ok-count.was) refl
    c.read_offers.ensures c.in_err-end.was))

pub returns-then-end-line : goal.returns-then-end-line
returns-then-end-line c =
    no-front (more_fields offer_then c.number_at.ensures
    (ap number_at c.in_ok-count.was) refl
    c.read_offers.ensures c.in_ok-end.was c.if-end-line.true)

pub returns : goal.returns
returns c =
    front-is _ (omega (arith, c.if-count.false))
    (list_is offer_then c.number_at.ensures
    (ap number_at c.in_ok-count.was) refl
    c.read_offers.ensures c.in_ok-end.was c.if-end-line.false)
