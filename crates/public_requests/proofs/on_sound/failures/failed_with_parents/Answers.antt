-- `public_requests::on_sound::failures::failed_with_parents` meets its contract: an instance of crates/outcome/proofs/Carried.
use native.Mathlib.Omega.{arith}
use Rattle.outcome.proofs.Turns.{passed}
use Rattle.outcome.proofs.Exits.{hands-on}
use Rattle.outcome.proofs.Carried.{refused_by, lists_done}
use Rattle.public_requests.proofs.Instances.{fails_with_parents}
use Rattle.outcome.proofs.ListedKeys.{failed-typed}
use Rattle.outcome.proofs.Widths.{key-typed}
use Rattle.public_requests.proofs.on_sound.failures.failed_with_parents.Goals as goal

pub returns-in_err-connection : goal.returns-in_err-connection
returns-in_err-connection c =
    rw (hands-on _ c.from_residual.ensures.1) (refused_by (fails_with_parents _ _ _ _).names c.requires _ c.in_err-connection.ensures.test)

pub failed_with_parents-listed-requires : goal.failed_with_parents-listed-requires
failed_with_parents-listed-requires c =
    let p = passed c.in_ok-connection.ensures.test in
    (c.need_of-n.ensures.kept, omega (arith, p.room))

pub returns : goal.returns
returns c =
    let k = failed-typed c.requires.state
    c.requires.sound _ _ _
    (key-typed c.args.key
    c.well_formed.1.0) in
    lists_done (fails_with_parents _ _ _ _) c.requires
    c.in_ok-connection.ensures.test c.need_of-n.ensures
    (λ i. omega (arith, c.type_inv.s i)) k (rw (c.in_ok-connection.ensures.given.0, c.in_ok-connection.ensures.given.1) at c.failed_with_parents-listed.ensures)
