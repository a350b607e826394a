-- `outcome::need` meets its contract: the code says what `need` says.
use mathlib.Core.Path.{refl}
use Rattle.machine.specs.Limits as limits
use Rattle.outcome.proofs.need.Goals as goal

pub returns : goal.returns
unfolding limits.need
returns c = refl
