-- `calling::missing::carry_out` meets its contract.
use mathlib.Core.Path.{refl, ap}
use native.Mathlib.Omega.{arith}
use Rattle.machine.specs.Call.{Buffer, TransactionNotFound}
use Rattle.lent_lists.specs.Items.{items_in}
use Rattle.printing.proofs.Printing.{listing-told, carried, does_is}
use Rattle.printing.proofs.Fitting.{keys-fit, listing_asked}
use Rattle.calling.proofs.missing.carry_out.Goals as goal

pub listing-requires : goal.listing-requires
listing-requires c =
    let d = c.transaction_not_found-a in
    (c.requires, listing_asked d.result _ (keys-fit d.ensures (omega (arith, d.auto))))

pub returns : goal.returns
returns c =
    carried _
    (does_is (ap (λ (u : Buffer). TransactionNotFound c.args.v.connection (items_in c.args.items.now) c.args.v.clock u)
    c.missing_buffer-answer.ensures)
    c.transaction_not_found-a.ensures) refl
    ((listing-told c.transaction_not_found-a.result _ c.listing.ensures).text _)
