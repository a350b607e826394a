-- `events::input::Session::take_all` meets its contract. The loop's invariant: what the program keeps is the first bytes, read.
use mathlib.Core.Path.{refl}
use native.Mathlib.Omega.{arith}
use Rattle.events.proofs.Bytewise.{took_none}
use Rattle.events.proofs.input.Session.take_all.Goals as goal

pub loop-at-init : goal.loop-at-init
loop-at-init _ c = (refl, λ p g. took_none g)

pub loop-at-preserved : goal.loop-at-preserved
loop-at-preserved _ c = (
  omega (arith, c.take_line-at.auto, c.loop-at.invariant.0),
  λ p g. c.take_line-at.ensures.taken p (c.loop-at.invariant.1 p g),
)
