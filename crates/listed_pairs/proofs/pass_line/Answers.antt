-- `listed_pairs::pass_line` meets its contract.
use native.Mathlib.Omega.{arith}
use Rattle.machine.proofs.Parting.{end_most}
use Rattle.listed_pairs.proofs.Passing.{passed_none, passed-is}
use Rattle.listed_pairs.proofs.pass_line.Goals as goal

pub returns-then-end-lines-clause-passed : goal.returns-then-end-lines-clause-passed
returns-then-end-lines-clause-passed c = passed_none c.args.lines.now.text.now c.args.lines.now.at c.requires c.find-end.ensures c.if-end-lines.true

pub overflow_add-lines : goal.overflow_add-lines
overflow_add-lines c = omega (arith, end_most 10 c.args.lines.now.text.now c.args.lines.now.at (omega (arith, c.requires)) c.find-end.ensures)

pub invariant_of-lines-2 : goal.invariant_of-lines-2
invariant_of-lines-2 c = record { within = omega (arith, end_most 10 c.args.lines.now.text.now c.args.lines.now.at (omega (arith, c.requires)) c.find-end.ensures, c.if-end-lines.false) }

pub returns-clause-passed : goal.returns-clause-passed
returns-clause-passed c = passed-is c.args.lines.now.text.now c.args.lines.now.at c.requires c.find-end.ensures c.if-end-lines.false
