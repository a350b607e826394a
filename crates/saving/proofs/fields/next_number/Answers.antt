-- `saving::fields::next_number` meets its contract.
use native.Mathlib.Omega.{arith}
use Rattle.saving.proofs.Laying.{lays_more}
use Rattle.saving.proofs.fields.next_number.Goals as goal

pub returns : goal.returns
returns c = (
  omega (arith, c.put_text-from.ensures.next, c.put_number.ensures.0),
  lays_more
      c.put_text-from.ensures c.put_number.ensures.1,
)
