-- `public_packages::on_sound::package_calls::claim_package` meets its contract: an instance of crates/outcome/proofs/Carried.
use native.Mathlib.Omega.{arith}
use Rattle.outcome.proofs.Exits.{hands-on}
use Rattle.outcome.proofs.Carried.{refused_by, yes-no_done}
use Rattle.public_packages.proofs.Instances.{claims-package}
use Rattle.public_packages.proofs.on_sound.package_calls.claim_package.Goals as goal

pub returns-in_err-of_connection_and_clock : goal.returns-in_err-of_connection_and_clock
returns-in_err-of_connection_and_clock c =
    rw (hands-on _ c.from_residual.ensures.1) (refused_by (claims-package _ _ _ _ _).names c.requires _ c.in_err-of_connection_and_clock.ensures.test)

pub returns : goal.returns
returns c =
    yes-no_done (claims-package _ _ _ _ _) c.requires
    c.in_ok-of_connection_and_clock.ensures.test
    c.need_of-n.ensures (λ i. omega (arith, c.type_inv.s i)) c.claim_package.ensures c.replied.ensures
