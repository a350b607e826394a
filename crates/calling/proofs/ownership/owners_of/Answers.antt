-- `calling::ownership::owners_of` meets its contract.
use mathlib.Core.Path.{refl, ap}
use native.Mathlib.Omega.{arith}
use Rattle.machine.specs.Call.{Buffer, OwnersOf}
use Rattle.lent_lists.specs.Lists.{hashes_in}
use Rattle.printing.proofs.Printing.{carried, does_is}
use Rattle.printing.proofs.Fitting.{owners-fits}
use Rattle.calling.proofs.ownership.owners_of.Goals as goal

pub listing-requires : goal.listing-requires
listing-requires c =
    let d = c.owners_of-a in
    (c.requires, owners-fits d.ensures (omega (arith, d.auto)))

pub returns : goal.returns
returns c =
    carried _
    (does_is (ap (λ (u : Buffer). OwnersOf (hashes_in c.args.hashes.now) u) c.owners_buffer-answer.ensures)
    c.owners_of-a.ensures) refl
    (c.listing.ensures.text _)
