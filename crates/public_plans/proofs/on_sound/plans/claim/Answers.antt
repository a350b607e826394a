-- `public_plans::on_sound::plans::claim` meets its contract: an instance of proofs/Taken.
use mathlib.Core.Path.{◌∙◌}
use native.Mathlib.Omega.{arith}
use Rattle.outcome.proofs.Turns.{passed}
use Rattle.outcome.proofs.Exits.{hands-on}
use Rattle.outcome.proofs.Carried.{refused_by}
use Rattle.public_plans.proofs.Entered.{length-entries, entries_whole}
use Rattle.public_plans.proofs.Taken.{claims, claims_done}
use Rattle.public_plans.proofs.on_sound.plans.claim.Goals as goal

pub returns-in_err-clock : goal.returns-in_err-clock
returns-in_err-clock c =
    rw (hands-on _ c.from_residual.ensures.1) (refused_by (claims _ _ _) c.requires _ (c.in_err-clock.ensures.test ∙ rw c.list_needs-needs.ensures))

pub claim_bytes-taken-requires : goal.claim_bytes-taken-requires
claim_bytes-taken-requires c =
    let p = passed c.in_ok-clock.ensures.test in (
      c.need_of-n.ensures.kept,
      omega (
        arith,
        p.room,
        c.list_needs-needs.ensures,
        length-entries
            c.args.checked.now,
      ),
    )

pub returns : goal.returns
returns c =
    let whole = entries_whole c.args.checked.now
    (λ i. omega (arith, c.type_inv.checked i)) in
    claims_done _ _ c.requires whole
    (c.in_ok-clock.ensures.test ∙ rw c.list_needs-needs.ensures) c.need_of-n.ensures
    (λ i. omega (arith, c.type_inv.s i)) (rw c.in_ok-clock.ensures.given at c.claim_bytes-taken.ensures)
