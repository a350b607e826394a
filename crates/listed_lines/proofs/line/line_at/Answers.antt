-- `listed_lines::line::line_at` meets its contract.
use native.Mathlib.Omega.{arith}
use Rattle.machine.proofs.Parting.{end_most}
use Rattle.listed_lines.proofs.Ends.{line_none, line_is}
use Rattle.listed_lines.proofs.line.line_at.Goals as goal

pub returns-then-end-text : goal.returns-then-end-text
returns-then-end-text c =
    line_none c.args.text.now c.args.at c.requires
    c.find-end.ensures c.if-end-text.true

pub slice_bounds-line_in-end : goal.slice_bounds-line_in-end
slice_bounds-line_in-end c =
    omega (arith, end_most 10 c.args.text.now c.args.at (omega arith) c.find-end.ensures)

pub returns : goal.returns
returns c =
    line_is c.args.text.now c.args.at c.requires
    c.find-end.ensures c.if-end-text.false
    c.line_in.ensures
