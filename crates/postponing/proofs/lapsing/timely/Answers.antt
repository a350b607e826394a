-- `postponing::lapsing::timely` meets its contract.
use mathlib.Core.Path.{sym, ◌∙◌}
use Rattle.postponing.proofs.LapsedRows.{none_timely}
use Rattle.postponing.proofs.lapsing.timely.Goals as goal

pub returns : goal.returns
returns c = λ e st s w. none_timely st s (sym (c.none_due.ensures _ w (c.rows-n.ensures.field _ w)) ∙ e)
