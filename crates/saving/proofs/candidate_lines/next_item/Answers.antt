-- `saving::candidate_lines::next_item` meets its contract.
use Prim.Native.Nat.{◌/◌}
use native.Mathlib.Omega.{arith}
use Rattle.requests.proofs.Pushing.{one_bit}
use Rattle.saving.proofs.Texts.{item-laid}
use Rattle.saving.proofs.candidate_lines.next_item.Goals as goal

pub returns : goal.returns
returns c = (
  omega (
    arith,
    c.put_text-from.ensures.next,
    c.put_letter-e.ensures.0,
    c.put_hash.ensures.0,
  ),
  item-laid _ _
      c.put_text-from.ensures (rw (c.kind.ensures, c.is_witness.ensures, one_bit (c.args.r.bits / 2)) at c.put_letter-e.ensures.1)
      c.put_hash.ensures.1,
)
