-- `planning::expiring::seek_due` meets its contract.
use mathlib.Core.Path.{sym, ◌∙◌}
use native.Mathlib.Omega.{arith}
use Rattle.planning.proofs.RowsDue.{pass-row}
use Rattle.planning.proofs.expiring.seek_due.Goals as goal

pub loop-i-preserved : goal.loop-i-preserved
loop-i-preserved c = λ f x w. c.loop-i.invariant f x w
    ∙ pass-row c.args.low c.args.clock (omega (arith, c.loop-i-test.true, c.rows-i-end.ensures)) c.row_at-r.ensures (sym c.is_still.ensures ∙ c.if-is_still.false) f x w
