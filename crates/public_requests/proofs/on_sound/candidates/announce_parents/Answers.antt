-- `public_requests::on_sound::candidates::announce_parents` meets its contract: an instance of crates/outcome/proofs/Carried.
use mathlib.Core.Path.{◌∙◌}
use native.Mathlib.Omega.{arith}
use Rattle.outcome.proofs.Turns.{passed}
use Rattle.outcome.proofs.Exits.{hands-on}
use Rattle.outcome.proofs.Carried.{refused_by, lists_done}
use Rattle.public_requests.proofs.Instances.{announces-parents}
use Rattle.outcome.proofs.ListedKeys.{parents-typed}
use Rattle.public_requests.proofs.on_sound.candidates.announce_parents.Goals as goal

pub returns-in_err-connection : goal.returns-in_err-connection
returns-in_err-connection c =
    rw (hands-on _ c.from_residual.ensures.1) (refused_by (announces-parents _ _ _ _).names c.requires _ (c.in_err-connection.ensures.test ∙ rw c.hashes-count.ensures))

pub announce_parents-listed-requires : goal.announce_parents-listed-requires
announce_parents-listed-requires c =
    let p = passed c.in_ok-connection.ensures.test in (
      c.need_of-n.ensures.kept,
      omega (arith, p.few, c.hashes-count.ensures),
      omega
          (arith, p.few, p.room, c.hashes-count.ensures),
    )

pub returns : goal.returns
returns c =
    let p = passed c.in_ok-connection.ensures.test in
    let k = parents-typed _ _ _ c.args.parents.now _
    (λ i. omega (arith, c.type_inv.parents i))
    (omega (arith, p.few, c.hashes-count.ensures)) in
    lists_done (announces-parents _ _ _ _) c.requires
    (c.in_ok-connection.ensures.test ∙ rw c.hashes-count.ensures) c.need_of-n.ensures
    (λ i. omega (arith, c.type_inv.s i)) k (rw (c.in_ok-connection.ensures.given.0, c.in_ok-connection.ensures.given.1) at c.announce_parents-listed.ensures)
