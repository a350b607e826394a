-- `reading::fields::field_to` meets its contract.
use borrow.Author.Rules.{rules}
use native.Mathlib.Omega.{arith}
use Rattle.machine.proofs.Parting.{end_most}
use Rattle.reading.proofs.Taking.{text_lent}
use Rattle.reading.proofs.fields.field_to.Goals as goal

pub slice_bounds-parse-end : goal.slice_bounds-parse-end
slice_bounds-parse-end g c = search (rules, end_most 44 c.args.line.now _ (omega arith) c.requires.ends.1)

pub returns-in_err-value : goal.returns-in_err-value
returns-in_err-value g c = rw c.from_residual.ensures (record { is = λ h. (_, c.in_err-value.ensures, text_lent _ _ _ c.requires.ends.1) })

pub returns : goal.returns
returns g c = record { is = (c.requires.ends.0, c.requires.ends.1, (_, c.in_ok-value.ensures, text_lent _ _ _ c.requires.ends.1)) }
