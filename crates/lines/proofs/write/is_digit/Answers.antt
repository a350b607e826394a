-- `lines::write::is_digit` meets its contract.
use mathlib.Core.Path.{ap, ◌∙◌}
use lib.Dec.{ltb}
use Rattle.regions.specs.Rows.{quad_number}
use Rattle.lines.proofs.Hashes.{quad_low}
use Rattle.lines.proofs.write.is_digit.Goals as goal

pub returns : goal.returns
returns c = c.quad_less.ensures ∙ ap (λ n. ltb (quad_number c.args.q) n) (quad_low 16)
