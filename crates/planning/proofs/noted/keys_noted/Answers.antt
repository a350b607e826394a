-- `planning::noted::keys_noted` meets its contract.
use mathlib.Core.Path.{◌∙◌}
use native.Mathlib.Omega.{arith}
use Rattle.planning.proofs.Notings.{noted_goes}
use Rattle.planning.proofs.noted.keys_noted.Goals as goal

pub loop-i-preserved : goal.loop-i-preserved
loop-i-preserved c = (
  omega (arith, c.loop-i-test.true),
  c.consider_noted-w.auto.s ∙ c.loop-i.invariant.1,
  c.consider_noted-w.auto.picks ∙ c.loop-i.invariant.2,
  noted_goes c.loop-i.invariant.3 c.loop-i-test.true c.consider_noted-w.ensures,
)
