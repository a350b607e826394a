-- `calling::offers::answer_offers` meets its contract.
use mathlib.Core.Path.{refl, sym}
use Rattle.asking.specs.Calls.{inventory_ask}
use Rattle.reading.specs.Given.{values_of}
use Rattle.printing.proofs.Printing.{number-told, carried}
use Rattle.calling.proofs.Unplanned.{offers_unplanned, keeps-call}
use Rattle.calling.proofs.Batch.{offers_held}
use Rattle.calling.proofs.offers.answer_offers.Goals as goal

pub returns : goal.returns
returns c =
    let h = offers_held c.read_list.ensures
    c.in-Some.is in
    keeps-call (sym (h.held.is (inventory_ask (values_of c.args.v)))) (offers_unplanned (values_of c.args.v) _)
    (carried _ c.announce_transactions-a.ensures refl ((number-told c.announce_transactions-a.result c.number.ensures).text _))
