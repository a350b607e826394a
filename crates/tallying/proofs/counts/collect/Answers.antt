-- `tallying::counts::collect` meets its contract.
use mathlib.Core.Path.{refl}
use native.Mathlib.Omega.{arith}
use Rattle.tallying.proofs.Tables.{collecting_none, collecting_done}
use Rattle.tallying.proofs.counts.collect.Goals as goal

pub loop-j-init : goal.loop-j-init
loop-j-init c = (collecting_none _ _, refl)

pub returns : goal.returns
returns c = collecting_done c.loop-j.invariant.0 (omega (arith, c.loop-j.invariant.0.most, c.loop-j-test.false)) c.truncate.ensures
