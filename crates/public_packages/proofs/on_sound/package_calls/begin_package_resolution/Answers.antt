-- `public_packages::on_sound::package_calls::begin_package_resolution` meets its contract: an instance of crates/outcome/proofs/Carried.
use native.Mathlib.Omega.{arith}
use Rattle.outcome.proofs.Exits.{hands-on}
use Rattle.outcome.proofs.Carried.{refused_by, yes-no_done}
use Rattle.public_packages.proofs.Instances.{begins-resolution}
use Rattle.public_packages.proofs.on_sound.package_calls.begin_package_resolution.Goals as goal

pub returns-in_err-of_connection_and_clock : goal.returns-in_err-of_connection_and_clock
returns-in_err-of_connection_and_clock c =
    rw (hands-on _ c.from_residual.ensures.1) (refused_by (begins-resolution _ _ _ _ _).names c.requires _ c.in_err-of_connection_and_clock.ensures.test)

pub returns : goal.returns
returns c =
    yes-no_done (begins-resolution _ _ _ _ _) c.requires
    c.in_ok-of_connection_and_clock.ensures.test
    c.need_of-n.ensures (λ i. omega (arith, c.type_inv.s i)) c.begin_package_resolution.ensures
    c.replied.ensures
