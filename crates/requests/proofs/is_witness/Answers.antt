-- `requests::is_witness` meets its contract.
use mathlib.Core.Path.{ap, ◌∙◌}
use Rattle.regions.specs.Packed.{bit}
use Rattle.store.proofs.Packed.{witness-is}
use Rattle.requests.proofs.is_witness.Goals as goal

pub returns : goal.returns
returns c = ap bit c.eq.ensures ∙ witness-is c.args.k
