-- `public_plans::on_sound::plans::plan_over` meets its contract: an instance of proofs/Planned.
use native.Mathlib.Omega.{arith}
use Rattle.planning.specs.Replying.{asked_in}
use Rattle.outcome.proofs.Turns.{passed, sized}
use Rattle.outcome.proofs.Exits.{hands-on}
use Rattle.outcome.proofs.Carried.{refused_by, front_limit}
use Rattle.public_plans.proofs.Planned.{plans, asked_typed, plans_done}
use Rattle.public_plans.proofs.on_sound.plans.plan_over.Goals as goal

pub returns-in_err-clock : goal.returns-in_err-clock
returns-in_err-clock c =
    rw (hands-on _ c.from_residual.ensures.1) (refused_by (plans _ _ _) c.requires.0 _ (sized _ _ _ _ c.in_err-clock.ensures.test (c.plan_needs-needs.ensures c.requires.0)))

pub plan-planned-requires : goal.plan-planned-requires
plan-planned-requires c =
    let w = c.requires.0 in
    let p = passed c.in_ok-clock.ensures.test in
    let e = c.need_of-n.ensures in
    (e.kept, omega (arith, p.room, c.plan_needs-needs.ensures w, front_limit w e))

pub returns : goal.returns
returns c =
    let w = c.requires.0 in
    let a = c.args in
    let q = sized _ _ _ _ c.in_ok-clock.ensures.test (c.plan_needs-needs.ensures w) in
    rw c.from.ensures (plans_done _ (asked_in (λ g. g.now) a.asked) w (omega arith) (asked_typed a.asked c.requires.1) q
    c.need_of-n.ensures (λ i. omega (arith, c.type_inv.s i))
    (rw c.in_ok-clock.ensures.given at c.plan-planned.ensures))
