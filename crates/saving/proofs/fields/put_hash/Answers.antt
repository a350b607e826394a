-- `saving::fields::put_hash` meets its contract.
use native.Mathlib.Omega.{arith}
use Rattle.saving.proofs.Laying.{taken, hash_end, hash-laid}
use Rattle.saving.proofs.fields.put_hash.Goals as goal

pub slice_bounds-t-end : goal.slice_bounds-t-end
slice_bounds-t-end c = omega (arith, hash_end _ c.put_hash-e.ensures, c.put_hash-e.auto)

pub slice_bounds-put_text-end : goal.slice_bounds-put_text-end
slice_bounds-put_text-end c = taken c.put_hash-e.result c.put_hash-e.new.s (omega (
  arith,
  hash_end _
      c.put_hash-e.ensures,
  c.put_hash-e.auto,
))

pub returns : goal.returns
returns c = hash-laid _ c.put_hash-e.ensures c.put_text.ensures
