-- `wrapping::offering::swap` meets its contract.
use Prim.Native.Nat.{◌<◌}
use native.Mathlib.Omega.{arith}
use lib.ListN.{length}
use Rattle.lent_lists.specs.Items.{offers_in}
use Rattle.wrapping.proofs.Swapped.{swaps_start, swaps_next}
use Rattle.wrapping.proofs.offering.swap.Goals as goal

pub loop-i-init : goal.loop-i-init
loop-i-init c = rw c.requires.4 (swaps_start c.args.b.terms (offers_in c.args.b.items.now c.args.b.priorities.now) c.requires.3 c.requires.2 c.requires.1 c.requires.5)

pub loop-i-preserved : goal.loop-i-preserved
loop-i-preserved c =
    let inside : c.loop-i.i < length (offers_in c.args.b.items.now c.args.b.priorities.now) = omega (arith, c.loop-i-test.true, c.count-count.ensures) in
    swaps_next c.loop-i.invariant inside c.offered_at.ensures c.defer.result c.eq.ensures c.if-eq.false c.defer.ensures.1 c.defer.ensures.0
