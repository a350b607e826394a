-- `public_packages::on_sound::departures::disconnected` meets its contract: an instance of proofs/Departed.
use mathlib.Core.Path.{◌∙◌}
use native.Mathlib.Omega.{arith}
use Rattle.outcome.proofs.Turns.{passed}
use Rattle.outcome.proofs.Exits.{hands-on}
use Rattle.outcome.proofs.Carried.{refused_by, front_limit, front_places}
use Rattle.public_packages.proofs.Departed.{departs, departs_done}
use Rattle.public_packages.proofs.on_sound.departures.disconnected.Goals as goal

pub returns-in_err-connection : goal.returns-in_err-connection
returns-in_err-connection c =
    rw (hands-on _ c.from_residual.ensures.1) (refused_by (departs _ _ _) c.requires _ (c.in_err-connection.ensures.test ∙ rw (c.departure_needs-needs.ensures c.requires)))

pub disconnected-left-requires : goal.disconnected-left-requires
disconnected-left-requires c =
    let w = c.requires in
    let p = passed c.in_ok-connection.ensures.test in
    let e = c.need_of-n.ensures in
    (e.kept, omega (arith, p.room, c.departure_needs-needs.ensures w, front_limit w e, front_places w e))

pub returns : goal.returns
returns c =
    let w = c.requires in
    departs_done _ _ w (omega arith)
    (c.in_ok-connection.ensures.test ∙ rw (c.departure_needs-needs.ensures w)) c.need_of-n.ensures
    (λ i. omega (arith, c.type_inv.s i)) (rw (c.in_ok-connection.ensures.given.0, c.in_ok-connection.ensures.given.1) at c.disconnected-left.ensures)
