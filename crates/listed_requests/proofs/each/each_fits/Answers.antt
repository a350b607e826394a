-- `listed_requests::each::each_fits` meets its contract. The loop's invariant: the requests that are left pass where all of them do.
use Rattle.listed_requests.proofs.Advancing.{pass-begin, pass_end}
use mathlib.Core.Path.{refl}
use native.Mathlib.Omega.{arith}
use Rattle.listed_requests.proofs.each.each_fits.Goals as goal

pub loop-lines-init : goal.loop-lines-init
loop-lines-init c = (refl, omega arith, omega arith, pass-begin _ _ _ _)

pub returns : goal.returns
returns c = rw (← c.loop-lines.invariant.0) (pass_end c.loop-lines.invariant.3 (c.loop-lines-test.ensures.0 refl))
