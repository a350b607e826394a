-- `planning::expiring::ready_due` meets its contract.
use Prim.Native.Nat.{◌<◌}
use mathlib.Core.Path.{refl, ◌∙◌}
use native.Mathlib.Omega.{arith}
use Rattle.ident.specs.Words.{key_num}
use Rattle.machine.specs.Limits.{word}
use Rattle.planning.proofs.AllExpired.{place-small}
use Rattle.planning.proofs.Readying.{ready-starts, ready_kept, half_kept, ready_goes, ready-ends, made_ready}
use Rattle.planning.proofs.expiring.ready_due.Goals as goal

pub loop-due-init : goal.loop-due-init
loop-due-init c = (refl, omega arith, ready-starts _ c.args.clock _ (omega arith))

pub next_due-requires : goal.next_due-requires
next_due-requires c = ready_kept c.loop-due.invariant.2 c.requires

pub returns : goal.returns
returns c =
    let late : c.args.clock < word = omega arith in
    made_ready late (ready-ends c.loop-due.invariant.2 (c.next_due.ensures.ends c.in_default.is))

pub ready_all-requires : goal.ready_all-requires
ready_all-requires c = ready_kept c.loop-due.invariant.2 c.requires

pub ready_all-requires-in-Some : goal.ready_all-requires-in-Some
ready_all-requires-in-Some c =
    let g = c.next_due.ensures.goes c.in-Some.due c.in-Some.is in
    let late : c.args.clock < word = omega arith in
    half_kept c.loop-due.invariant.2 (key_num c.in-Some.due.key) late g.small c.ready_all.ensures c.requires

pub loop-due-preserved : goal.loop-due-preserved
loop-due-preserved c =
    let g = c.next_due.ensures.goes c.in-Some.due c.in-Some.is in
    let late : c.args.clock < word = omega arith in (
      c.ready_all-in-Some.auto.s ∙ c.ready_all.auto.s ∙ c.loop-due.invariant.0,
      place-small (key_num c.in-Some.due.key) g.small,
      ready_goes c.loop-due.invariant.2 late g c.same_hash_other_kind.ensures c.ready_all.ensures c.ready_all-in-Some.ensures,
    )
