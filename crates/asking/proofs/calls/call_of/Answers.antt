-- `asking::calls::call_of` meets its contract.
use mathlib.Core.Path.{◌∙◌}
use native.Mathlib.Omega.{arith}
use lib.ListN.{length-take}
use Rattle.machine.proofs.Parting.{end_most}
use Rattle.asking.proofs.Worded.{worded}
use Rattle.asking.proofs.calls.call_of.Goals as goal

pub slice_bounds-word_of-end : goal.slice_bounds-word_of-end
slice_bounds-word_of-end c = simp length-take (omega (arith, end_most 44 c.args.line.now 0 (omega arith) c.field_end-e.ensures))

pub returns-in_err-w : goal.returns-in_err-w
returns-in_err-w c = rw c.from_residual.ensures (worded c.args.line.now c.field_end-e.result c.field_end-e.ensures c.in_err-w.ensures)

pub returns : goal.returns
returns c =
    c.call_with.ensures ∙ worded c.args.line.now c.field_end-e.result c.field_end-e.ensures
    c.in_ok-w.ensures
