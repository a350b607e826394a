-- `saving::candidate_lines::put_candidate` meets its contract.
use mathlib.Core.Path.{sym}
use native.Mathlib.Omega.{arith}
use Rattle.saving.proofs.Laying.{lays_as, lays_more}
use Rattle.saving.proofs.Lines.{candidate-line}
use Rattle.saving.proofs.candidate_lines.put_candidate.Goals as goal

pub returns : goal.returns
returns c = (
  omega (
    arith,
    c.put_number-e.ensures.0,
    c.next_item-e.ensures.0,
    c.next_number-e.ensures.0,
    c.next_bool-e.ensures.0,
    c.next_number-e-2.ensures.0,
    c.put_text.ensures.next,
  ),
  lays_as (sym (candidate-line
      c.args.r)) (lays_more
      c.put_number-e.ensures.1 (lays_more
      c.next_item-e.ensures.1 (lays_more c.next_number-e.ensures.1 (lays_more
      (rw c.is_preferred.ensures at c.next_bool-e.ensures.1) (lays_more
      c.next_number-e-2.ensures.1 c.put_text.ensures))))),
)
