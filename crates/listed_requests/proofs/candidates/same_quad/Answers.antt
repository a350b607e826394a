-- `listed_requests::candidates::same_quad` meets its contract.
use mathlib.Core.Path.{◌∙◌}
use native.Mathlib.Omega.{arith}
use Rattle.listed_requests.proofs.Fitting.{same_words}
use Rattle.listed_requests.proofs.candidates.same_quad.Goals as goal

pub returns : goal.returns
returns c = c.eq.ensures ∙ same_words c.args.a c.args.b (omega arith) (omega arith)
