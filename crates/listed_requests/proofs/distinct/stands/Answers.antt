-- `listed_requests::distinct::stands` meets its contract.
use mathlib.Core.Path.{◌∙◌}
use Rattle.listed_requests.proofs.Repeats.{any_elem}
use Rattle.listed_requests.proofs.distinct.stands.Goals as goal

pub returns : goal.returns
returns c = c.contains.ensures.value ∙ any_elem c.args.x c.args.list.now
