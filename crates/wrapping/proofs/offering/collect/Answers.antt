-- `wrapping::offering::collect` meets its contract.
use Prim.Native.Nat.{◌<◌}
use native.Mathlib.Omega.{arith}
use lib.ListN.{length}
use Rattle.lent_lists.specs.Items.{offers_in}
use Rattle.wrapping.proofs.Gathered.{collects_start, collects_next}
use Rattle.wrapping.proofs.offering.collect.Goals as goal

pub loop-i-init : goal.loop-i-init
loop-i-init c = rw c.requires.2 (collects_start c.args.b.terms (offers_in c.args.b.items.now c.args.b.priorities.now) c.requires.1 c.requires.3)

pub loop-i-preserved : goal.loop-i-preserved
loop-i-preserved c =
    let inside : c.loop-i.i < length (offers_in c.args.b.items.now c.args.b.priorities.now) = omega (arith, c.loop-i-test.true, c.count-count.ensures) in
    collects_next c.loop-i.invariant inside c.offered_at.ensures c.set_aside.result c.eq.ensures c.if-eq.false c.set_aside.ensures.1 c.set_aside.ensures.0
