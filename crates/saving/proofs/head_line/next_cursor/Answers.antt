-- `saving::head_line::next_cursor` meets its contract.
use native.Mathlib.Omega.{arith}
use Rattle.saving.proofs.Texts.{cursor-laid}
use Rattle.saving.proofs.head_line.next_cursor.Goals as goal

pub returns : goal.returns
returns c = (
  omega (arith, c.put_text-from.ensures.next, c.put_key.ensures.0),
  cursor-laid c.in-Some.is c.put_text-from.ensures c.put_key.ensures.1,
)
