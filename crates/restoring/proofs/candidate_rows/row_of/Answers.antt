-- `restoring::candidate_rows::row_of` meets its contract.
use mathlib.Core.Path.{ap, ◌∙◌}
use native.Mathlib.Omega.{arith}
use Rattle.regions.specs.Packed.{bit}
use Rattle.store.proofs.Packed.{packed, witness-is}
use Rattle.restoring.proofs.LineFields.{row_made}
use Rattle.restoring.proofs.candidate_rows.row_of.Goals as goal

pub returns : goal.returns
returns c =
    let fits = c.well_formed in
    row_made c.args.r c.args.c
    (record { w0 = omega (arith, fits); w1 = omega (arith, fits); w2 = omega (arith, fits); w3 = omega (arith, fits) })
    c.is_owner.ensures c.deadline_for.ensures
    (packed c.args.r.key.kind c.eq.result c.args.c.preferred c.is_owner.result c.args.r.mark c.from.ensures (ap bit c.eq.ensures ∙ witness-is c.args.c.kind))
