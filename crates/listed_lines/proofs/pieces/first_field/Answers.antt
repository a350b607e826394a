-- `listed_lines::pieces::first_field` meets its contract.
use borrow.Author.Rules.{rules}
use native.Mathlib.Omega.{arith}
use Rattle.machine.proofs.Parting.{end_most}
use Rattle.listed_lines.proofs.Taking.{first_lent}
use Rattle.listed_lines.proofs.pieces.first_field.Goals as goal

pub slice_bounds-parse-end : goal.slice_bounds-parse-end
slice_bounds-parse-end g c = search (rules, end_most 44 c.args.line.now _ (omega arith) c.field_end-end.ensures)

pub returns-in_err-value : goal.returns-in_err-value
returns-in_err-value g c = rw c.from_residual.ensures (record { is = (_, c.in_err-value.ensures, first_lent _ (omega (arith, c.field_end-end.ensures))) })

pub returns : goal.returns
returns g c = record { is = (omega (arith, c.field_end-end.ensures), (_, c.in_ok-value.ensures, first_lent _ (omega (arith, c.field_end-end.ensures)))) }
