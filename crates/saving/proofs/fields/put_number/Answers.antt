-- `saving::fields::put_number` meets its contract.
use native.Mathlib.Omega.{arith}
use Rattle.saving.proofs.Laying.{taken, number_end, number-laid}
use Rattle.saving.proofs.fields.put_number.Goals as goal

pub slice_bounds-t-end : goal.slice_bounds-t-end
slice_bounds-t-end c = omega (arith, number_end _ c.put_decimal-e.ensures, c.put_decimal-e.auto)

pub slice_bounds-put_text-end : goal.slice_bounds-put_text-end
slice_bounds-put_text-end c = taken c.put_decimal-e.result c.put_decimal-e.new.s (omega (
  arith,
  number_end _
      c.put_decimal-e.ensures,
  c.put_decimal-e.auto,
))

pub returns : goal.returns
returns c = number-laid _ c.put_decimal-e.ensures c.put_text.ensures
