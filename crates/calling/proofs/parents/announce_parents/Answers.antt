-- `calling::parents::announce_parents` meets its contract.
use mathlib.Core.Path.{refl, ap}
use native.Mathlib.Omega.{arith}
use Rattle.machine.specs.Call.{Buffer, AnnounceParents}
use Rattle.lent_lists.specs.Lists.{hashes_in}
use Rattle.printing.proofs.Printing.{listing-told, carried, does_is}
use Rattle.printing.proofs.Fitting.{keys-fit, listing_asked}
use Rattle.calling.proofs.parents.announce_parents.Goals as goal

pub listing-requires : goal.listing-requires
listing-requires c =
    let d = c.announce_parents-a in
    (c.requires, listing_asked d.result _ (keys-fit d.ensures (omega (arith, d.auto))))

pub returns : goal.returns
returns c =
    carried _
    (does_is (ap (λ (u : Buffer). AnnounceParents c.args.connection (hashes_in c.args.parents.now) c.args.clock u)
    c.answer_buffer-answer.ensures)
    c.announce_parents-a.ensures) refl
    ((listing-told c.announce_parents-a.result _ c.listing.ensures).text _)
