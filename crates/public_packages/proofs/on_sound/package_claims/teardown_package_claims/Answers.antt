-- `public_packages::on_sound::package_claims::teardown_package_claims` meets its contract: an instance of crates/outcome/proofs/Replies.
use native.Mathlib.Omega.{arith}
use Rattle.outcome.proofs.Exits.{hands-on}
use Rattle.outcome.proofs.Carried.{refused_by}
use Rattle.outcome.proofs.Replies.{counts_done}
use Rattle.public_packages.proofs.Instances.{tears_down}
use Rattle.public_packages.proofs.on_sound.package_claims.teardown_package_claims.Goals as goal

pub returns-in_err-of_clock : goal.returns-in_err-of_clock
returns-in_err-of_clock c =
    rw (hands-on _ c.from_residual.ensures.1) (refused_by (tears_down _).names c.requires _ c.in_err-of_clock.ensures.test)

pub returns : goal.returns
returns c =
    let g = c.teardown_package_claims-cleared.ensures in
    counts_done (tears_down _) c.requires
    c.in_ok-of_clock.ensures.test
    c.need_of-n.ensures (λ i. omega (arith, c.type_inv.s i)) g.count g.table
