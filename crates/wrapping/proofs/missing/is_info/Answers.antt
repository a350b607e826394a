-- `wrapping::missing::is_info` meets its contract.
use mathlib.Core.Path.{◌∙◌}
use Rattle.claims.proofs.Naming.{kind-type}
use Rattle.wrapping.proofs.missing.is_info.Goals as goal

pub returns : goal.returns
returns c = c.eq.ensures ∙ kind-type c.args.item.kind 7
