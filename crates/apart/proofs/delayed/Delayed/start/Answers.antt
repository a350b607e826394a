-- `apart::delayed::Delayed::start` meets its contract.
use mathlib.Core.Path.{refl}
use Rattle.apart.proofs.Delays.{starts}
use Rattle.apart.proofs.delayed.Delayed.start.Goals as goal

pub returns : goal.returns
returns c = starts c.none.ensures.1 c.timely-later.ensures c.none.ensures.0 refl
