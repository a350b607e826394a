-- `listed_lines::pieces::none_at` meets its contract.
use mathlib.Core.Path.{sym, ◌∙◌}
use native.Mathlib.Omega.{arith}
use Rattle.machine.proofs.Parting.{end_most}
use Rattle.listed_lines.proofs.Missing.{none_past, none_not, none_is}
use Rattle.listed_lines.proofs.pieces.none_at.Goals as goal

pub returns-then-line-e : goal.returns-then-line-e
returns-then-line-e c = none_past c.args.line.now c.args.e c.if-line-e.true

pub slice_bounds-same-end : goal.slice_bounds-same-end
slice_bounds-same-end c = omega (arith, end_most 44 c.args.line.now _ (omega arith) c.field_end-to.ensures)

pub returns-then-not-same : goal.returns-then-not-same
returns-then-not-same c =
    none_not c.args.line.now c.args.e c.if-line-e.false c.field_end-to.ensures (sym c.same.ensures ∙ c.if-not-same.true)

pub returns : goal.returns
returns c = none_is c.args.line.now c.args.e c.if-line-e.false c.field_end-to.ensures (sym c.same.ensures ∙ c.if-not-same.false)
