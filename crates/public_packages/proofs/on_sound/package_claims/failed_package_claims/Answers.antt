-- `public_packages::on_sound::package_claims::failed_package_claims` meets its contract: an instance of crates/outcome/proofs/Carried.
use native.Mathlib.Omega.{arith}
use Rattle.machine.proofs.Fail.{Peer}
use Rattle.outcome.proofs.Turns.{some_connection, passed, sized}
use Rattle.outcome.proofs.Exits.{hands-on}
use Rattle.outcome.proofs.Carried.{refused_by, front_places, lists_done}
use Rattle.outcome.proofs.ListedKeys.{claims-typed}
use Rattle.public_packages.proofs.Instances.{fails-claims}
use Rattle.public_packages.proofs.on_sound.package_claims.failed_package_claims.Goals as goal

pub returns-in_err-connection : goal.returns-in_err-connection
returns-in_err-connection c =
    rw (hands-on _ c.from_residual.ensures.1) (refused_by (fails-claims _ _ _ _).names c.requires _ (sized _ _ _ _ c.in_err-connection.ensures.test (c.claims_needs-needs.ensures c.requires)))

pub failed_package_claims-listed-requires : goal.failed_package_claims-listed-requires
failed_package_claims-listed-requires c =
    let w = c.requires in
    let p = passed c.in_ok-connection.ensures.test in
    let e = c.need_of-n.ensures in
    (e.kept, omega (arith, p.room, c.claims_needs-needs.ensures w, front_places w e))

pub returns : goal.returns
returns c =
    let w = c.requires in
    let q = sized _ _ _ _ c.in_ok-connection.ensures.test
    (c.claims_needs-needs.ensures w) in
    let a = c.args in
    let peer : Peer a.connection = record
    { positive = some_connection _ (passed c.in_ok-connection.ensures.test).connections; small = omega arith } in
    let typed = claims-typed w.state w.sound _ _ a.clock peer (omega arith) in
    lists_done (fails-claims _ _ _ _) w q c.need_of-n.ensures (λ i. omega (arith, c.type_inv.s i))
    typed (rw (c.in_ok-connection.ensures.given.0, c.in_ok-connection.ensures.given.1) at c.failed_package_claims-listed.ensures)
