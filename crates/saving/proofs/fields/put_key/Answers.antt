-- `saving::fields::put_key` meets its contract.
use native.Mathlib.Omega.{arith}
use Rattle.saving.proofs.Texts.{key-laid}
use Rattle.saving.proofs.fields.put_key.Goals as goal

pub returns : goal.returns
returns c = (
  omega (arith, c.put_text-e.ensures.next, c.put_hash.ensures.0),
  key-laid _ c.from.ensures
      (rw c.kind_letter.ensures at c.put_text-e.ensures) c.put_hash.ensures.1,
)
