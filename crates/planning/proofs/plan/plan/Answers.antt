-- `planning::plan::plan` meets its contract: expiry and the phases, and the next look at what they leave.
use Prim.Native.Nat.{◌<◌}
use native.Mathlib.Omega.{arith}
use Rattle.machine.specs.Limits.{word}
use Rattle.planning.specs.Replying.{asked_in}
use Rattle.planning.proofs.Planned.{plan_kept, plan_next}
use Rattle.planning.proofs.plan.plan.Goals as goal

pub next_look-requires : goal.next_look-requires
next_look-requires c =
    let late : c.args.clock.time < word = omega (arith, c.args.clock.early) in
    plan_kept (asked_in (λ g. g.now) c.args.asked) late c.select-r.ensures c.requires.0

pub returns : goal.returns
returns c =
    let late : c.args.clock.time < word = omega (arith, c.args.clock.early) in
    plan_next (asked_in (λ g. g.now) c.args.asked) late c.select-r.ensures c.next_look.result c.next_look.ensures
