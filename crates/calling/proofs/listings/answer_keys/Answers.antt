-- `calling::listings::answer_keys` meets its contract.
use mathlib.Core.Path.{refl}
use native.Mathlib.Omega.{arith}
use Rattle.reading.specs.Given.{values_of}
use Rattle.printing.proofs.Printing.{listing-told, carried}
use Rattle.printing.proofs.Fitting.{keys-fit, listing_asked}
use Rattle.calling.proofs.Unplanned.{keys_unplanned, keeps-call}
use Rattle.calling.proofs.listings.answer_keys.Goals as goal

pub listing-requires : goal.listing-requires
listing-requires c =
    let d = c.carry_out-a in
    (c.requires, listing_asked d.result _ (keys-fit d.ensures (omega (arith, d.auto))))

pub returns : goal.returns
returns c =
    keeps-call refl (keys_unplanned c.args.w (values_of c.args.v))
    (carried _ c.carry_out-a.ensures refl
    ((listing-told c.carry_out-a.result _ c.listing.ensures).text _))
