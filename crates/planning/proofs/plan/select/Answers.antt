-- `planning::plan::select` meets its contract.
use Prim.Native.Nat.{◌<◌}
use mathlib.Core.Path.{refl}
use native.Mathlib.Omega.{arith}
use Rattle.machine.specs.Limits.{word}
use Rattle.apart.proofs.OneOwner.{front_within}
use Rattle.planning.specs.Replying.{asked_in}
use Rattle.planning.proofs.Planned.{set-parted, started, limit_is, parted-after, plan_is}
use borrow.Author.Rules.{rules}
use Rattle.planning.proofs.plan.select.Goals as goal

pub ask-r-requires : goal.ask-r-requires
ask-r-requires c =
    let late : c.args.clock.time < word = omega (arith, c.args.clock.early) in
    let k = c.requires.0 in
    let asked = asked_in (λ g. g.now) c.args.asked in (
      started asked late c.set_apart.ensures c.begin-v.ensures c.held_places-c.ensures.word k.state k.sound k.writes,
      omega (arith, c.begin-v.auto.picks),
      rw (limit_is asked late c.set_apart.ensures c.begin-v.ensures c.held_places-c.ensures.word k.state k.sound k.writes) c.requires.1,
      c.begin-v.ensures.near,
    )

pub put_back-requires : goal.put_back-requires
put_back-requires c =
    let late : c.args.clock.time < word = omega (arith, c.args.clock.early) in
    let k = c.requires.0 in
    let y = front_within (set-parted c.requires.0 c.set_apart.ensures c.held_places-c.ensures.word).apart in
    parted-after (asked_in (λ g. g.now) c.args.asked) late c.set_apart.ensures c.begin-v.ensures c.held_places-c.ensures.word k.state k.sound k.writes (omega (arith, y, c.begin-v.auto.s))
    c.ask-r.auto.s refl (search rules) (search rules) c.ask-r.ensures

pub returns : goal.returns
returns c =
    let late : c.args.clock.time < word = omega (arith, c.args.clock.early) in
    let y = front_within (set-parted c.requires.0 c.set_apart.ensures c.held_places-c.ensures.word).apart in
    λ st s o. plan_is (asked_in (λ g. g.now) c.args.asked) late c.set_apart.ensures c.begin-v.ensures c.held_places-c.ensures.word st s o (omega (arith, y, c.begin-v.auto.s))
    c.ask-r.auto.s refl (search rules) (search rules) c.ask-r.ensures c.put_back.ensures
