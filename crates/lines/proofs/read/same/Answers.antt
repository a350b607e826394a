-- `lines::read::same` meets its contract.
use mathlib.Core.Path.{◌∙◌}
use Rattle.lines.proofs.Sameness.{pointwise-same}
use Rattle.lines.proofs.read.same.Goals as goal

pub returns : goal.returns
returns c = c.eq.ensures ∙ pointwise-same _ _
