-- `public_packages::on_sound::package_info::solicit_package_info` meets its contract: an instance of proofs/Solicited.
use native.Mathlib.Omega.{arith}
use Rattle.lent_lists.specs.Lists.{hashes_in}
use Rattle.outcome.proofs.Exits.{hands-on}
use Rattle.public_packages.proofs.Solicited.{solicit-refused, solicit-passed, solicit-room, solicit_done}
use Rattle.public_packages.proofs.on_sound.package_info.solicit_package_info.Goals as goal

pub returns-in_err-connection : goal.returns-in_err-connection
returns-in_err-connection c =
    rw (hands-on _ c.from_residual.ensures.1)
    (solicit-refused _ _ _ _ c.requires _ (c.in_err-connection.ensures.test c.requires (hashes_in c.args.parents.now) c.hashes-count.ensures))

pub solicit_package_info-requires : goal.solicit_package_info-requires
solicit_package_info-requires c =
    let hs = hashes_in c.args.parents.now in
    let g = c.in_ok-connection.ensures in
    let p = solicit-passed _ _ _ hs (λ w. g.test w hs c.hashes-count.ensures) c.requires in (
      c.need_of-n.ensures.kept,
      p.few,
      rw (g.given.0, g.given.1) (solicit-room _ _ _ _ (λ w. g.test w hs c.hashes-count.ensures) c.need_of-n.ensures),
    )

pub returns : goal.returns
returns c =
    let g = c.in_ok-connection.ensures in
    solicit_done _ _ _ _ (λ w. g.test w
    (hashes_in c.args.parents.now)
    c.hashes-count.ensures)
    c.requires c.need_of-n.ensures (λ i. omega (arith, c.type_inv.s i)) (rw (g.given.0, g.given.1) at c.solicit_package_info.ensures)
    c.replied.ensures
