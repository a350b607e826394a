-- `public_packages::on_sound::package_calls::release_package` meets its contract: an instance of crates/outcome/proofs/Carried.
use native.Mathlib.Omega.{arith}
use Rattle.outcome.proofs.Turns.{passed}
use Rattle.outcome.proofs.Exits.{hands-on}
use Rattle.outcome.proofs.Carried.{refused_by, lists_done}
use Rattle.public_packages.proofs.Instances.{releases-package}
use Rattle.soliciting.proofs.Subject.{subject_below}
use Rattle.outcome.proofs.ListedKeys.{released_typed}
use Rattle.public_packages.proofs.on_sound.package_calls.release_package.Goals as goal

pub returns-in_err-connection : goal.returns-in_err-connection
returns-in_err-connection c =
    rw (hands-on _ c.from_residual.ensures.1) (refused_by (releases-package _ _ _ _).names c.requires _ c.in_err-connection.ensures.test)

pub release_package-listed-requires : goal.release_package-listed-requires
release_package-listed-requires c =
    let p = passed c.in_ok-connection.ensures.test in
    (c.need_of-n.ensures.kept, omega (arith, p.room))

pub returns : goal.returns
returns c =
    let k = released_typed c.requires.state
    c.requires.sound _ _ _
    (subject_below c.args.subject
    c.well_formed.1.1.0) in
    lists_done (releases-package _ _ _ _) c.requires
    c.in_ok-connection.ensures.test c.need_of-n.ensures
    (λ i. omega (arith, c.type_inv.s i)) k (rw (c.in_ok-connection.ensures.given.0, c.in_ok-connection.ensures.given.1) at c.release_package-listed.ensures)
