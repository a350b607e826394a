-- `saving::fields::next_hash` meets its contract.
use native.Mathlib.Omega.{arith}
use Rattle.saving.proofs.Texts.{next_hash-laid}
use Rattle.saving.proofs.fields.next_hash.Goals as goal

pub returns : goal.returns
returns c = (
  omega (arith, c.put_text-from.ensures.next, c.put_hash.ensures.0),
  next_hash-laid
      c.from.ensures c.put_text-from.ensures c.put_hash.ensures.1,
)
