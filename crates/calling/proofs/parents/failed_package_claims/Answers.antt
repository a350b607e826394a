-- `calling::parents::failed_package_claims` meets its contract.
use mathlib.Core.Path.{refl, ap}
use native.Mathlib.Omega.{arith}
use Rattle.machine.specs.Call.{Buffer, FailedPackageClaims}
use Rattle.lent_lists.specs.Lists.{hashes_in}
use Rattle.printing.proofs.Printing.{listing-told, carried, does_is}
use Rattle.printing.proofs.Fitting.{keys-fit, listing_asked}
use Rattle.calling.proofs.parents.failed_package_claims.Goals as goal

pub listing-requires : goal.listing-requires
listing-requires c =
    let d = c.failed_package_claims-a in
    (c.requires, listing_asked d.result _ (keys-fit d.ensures (omega (arith, d.auto))))

pub returns : goal.returns
returns c =
    carried _
    (does_is (ap (λ (u : Buffer). FailedPackageClaims c.args.connection (hashes_in c.args.combined.now) c.args.clock u)
    c.answer_buffer-answer.ensures)
    c.failed_package_claims-a.ensures) refl
    ((listing-told c.failed_package_claims-a.result _ c.listing.ensures).text _)
