-- `calling::hashes::carry_out` meets its contract.
use Prim.Native.Nat.{ℕ}
use mathlib.Core.Path.{refl, ap, ◌∙◌}
use Rattle.ident.specs.Words.{hash_num}
use Rattle.regions.specs.Rows.{quad_number}
use Rattle.machine.specs.Call.{SolicitPackageInfo, ClaimPackage, BeginPackageResolution}
use Rattle.lent_lists.specs.Lists.{hashes_in}
use Rattle.reading.specs.Given.{values_of}
use Rattle.printing.proofs.Printing.{number-told, carried}
use Rattle.calling.proofs.Asked.{hashes-did}
use Rattle.calling.proofs.hashes.carry_out.Goals as goal

pub returns-in-SolicitPackageInfo : goal.returns-in-SolicitPackageInfo
returns-in-SolicitPackageInfo c =
    let v = c.args.v in
    let hs = hashes_in c.args.hashes.now in
    hashes-did (values_of v) hs c.in-SolicitPackageInfo.is
    (ap (λ (h : ℕ). SolicitPackageInfo v.connection h hs v.clock) c.from.ensures)
    (carried _ c.solicit_package_info.ensures refl ((number-told c.solicit_package_info.result c.number.ensures).text _))

pub returns-in-ClaimPackage : goal.returns-in-ClaimPackage
returns-in-ClaimPackage c =
    let v = c.args.v in
    let hs = hashes_in c.args.hashes.now in
    hashes-did (values_of v) hs c.in-ClaimPackage.is
    (ap (λ (h : ℕ). ClaimPackage v.connection h (hash_num c.from-combined.result) hs v.clock)
    c.from.ensures
    ∙ ap (λ (h : ℕ). ClaimPackage v.connection (quad_number v.hash) h hs v.clock) c.from-combined.ensures)
    (carried _ c.claim_package.ensures refl ((number-told c.claim_package.result c.number-in-ClaimPackage.ensures).text _))

pub returns-in-BeginPackageResolution : goal.returns-in-BeginPackageResolution
returns-in-BeginPackageResolution c =
    let v = c.args.v in
    let hs = hashes_in c.args.hashes.now in
    hashes-did (values_of v) hs c.in-BeginPackageResolution.is
    (ap (λ (h : ℕ). BeginPackageResolution v.connection h (hash_num c.from-combined.result) hs v.clock)
    c.from.ensures
    ∙ ap (λ (h : ℕ). BeginPackageResolution v.connection (quad_number v.hash) h hs v.clock)
    c.from-combined.ensures)
    (carried _ c.begin_package_resolution.ensures refl ((number-told c.begin_package_resolution.result c.number-in-BeginPackageResolution.ensures).text _))
