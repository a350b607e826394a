-- `parenting::displacing::finish` meets its contract.
use mathlib.Core.Path.{ap}
use Rattle.parenting.specs.Displacing.{Reserve}
use Rattle.parenting.proofs.Starting.{finished}
use Rattle.parenting.proofs.displacing.finish.Goals as goal

pub returns : goal.returns
returns c = (finished c.settle.ensures.0 c.let_in.ensures.0, ap (λ (r : Reserve). r.spent) c.settle.ensures.1)
