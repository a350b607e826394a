-- `gathering::coming::count_each` meets its contract.
use native.Mathlib.Omega.{arith}
use Rattle.gathering.proofs.CountingIn.{counting_none, counting_shown, counting_more, counting_done}
use Rattle.gathering.proofs.coming.count_each.Goals as goal

pub loop-i-init : goal.loop-i-init
loop-i-init c = counting_none

pub count_in-requires : goal.count_in-requires
count_in-requires c = counting_shown c.loop-i.invariant c.requires c.loop-i-test.true

pub loop-i-preserved : goal.loop-i-preserved
loop-i-preserved c = counting_more c.loop-i.invariant c.loop-i-test.true c.get.ensures c.count_in.auto.s c.count_in.ensures

pub returns : goal.returns
returns c = counting_done c.loop-i.invariant (omega (arith, c.loop-i.invariant.few, c.loop-i-test.false))
