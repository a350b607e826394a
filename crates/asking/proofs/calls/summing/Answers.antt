-- `asking::calls::summing` meets its contract.
use mathlib.Core.Path.{sym}
use Rattle.reading.proofs.Taking.{ending_end, ending_more}
use Rattle.asking.proofs.calls.summing.Goals as goal

pub returns-then-e-line : goal.returns-then-e-line
returns-then-e-line c = sym (ending_more c.args.line.now c.args.e _ c.if-e-line.true)

pub returns : goal.returns
returns c = sym (ending_end c.args.line.now c.args.e _ c.if-e-line.false)
