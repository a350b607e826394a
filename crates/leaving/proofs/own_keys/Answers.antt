use native.Mathlib.Omega.{arith}
use Rattle.store.specs.Flat.{flat_of}
use Rattle.leaving.proofs.OwnRows.{owning_none, owning-room, owning_more, owning_done}
use Rattle.leaving.proofs.own_keys.Goals as goal

pub loop-i-init : goal.loop-i-init
loop-i-init c = owning_none c.args.n c.args.s.now c.args.out.now

pub put_own-c-requires : goal.put_own-c-requires
put_own-c-requires c =
    let kept = c.requires.0 in
    let rows = c.rows-rows.ensures.field (flat_of kept.state) kept.writes in
    owning-room c.loop-i.invariant kept c.row_at-r.result c.requires.1
    (omega (arith, c.loop-i-test.true)) (c.row_at-r.ensures (flat_of kept.state) c.row_at-r.result kept.writes)

pub loop-i-preserved : goal.loop-i-preserved
loop-i-preserved c =
    let kept = c.requires.0 in
    let rows = c.rows-rows.ensures.field (flat_of kept.state) kept.writes in
    owning_more c.loop-i.invariant c.row_at-r.result
    (owning-room c.loop-i.invariant kept c.row_at-r.result
    c.requires.1 (omega (arith, c.loop-i-test.true))
    (c.row_at-r.ensures (flat_of kept.state) c.row_at-r.result kept.writes))
    (λ f h. omega (arith, c.rows-rows.ensures.field f h, c.loop-i-test.true))
    (λ f d h. c.row_at-r.ensures f d h)
    c.put_own-c.ensures

pub returns : goal.returns
returns c = owning_done c.loop-i.invariant (λ f h. omega (arith, c.rows-rows.ensures.field f h, c.loop-i-test.false))
