-- `public_packages::on_sound::package_claims::forget_known` meets its contract: an instance of crates/outcome/proofs/Carried.
use mathlib.Core.Path.{refl}
use native.Mathlib.Omega.{arith}
use Rattle.outcome.proofs.Exits.{hands-on}
use Rattle.outcome.proofs.Carried.{refused_by, yes-no_done}
use Rattle.public_packages.proofs.Instances.{forgets_known}
use Rattle.outcome.proofs.Replies.{silent-within}
use Rattle.public_packages.proofs.on_sound.package_claims.forget_known.Goals as goal

pub returns-in_err-of_clock : goal.returns-in_err-of_clock
returns-in_err-of_clock c =
    rw (hands-on _ c.from_residual.ensures.1) (refused_by (forgets_known _ _).names c.requires _ c.in_err-of_clock.ensures.test)

pub returns : goal.returns
returns c =
    yes-no_done (forgets_known _ _) c.requires
    c.in_ok-of_clock.ensures.test
    c.need_of-n.ensures (λ i. omega (arith, c.type_inv.s i)) (silent-within c.forget_known.ensures) refl
