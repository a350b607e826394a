-- `saving::request_lines::put_request` meets its contract.
use native.Mathlib.Omega.{arith}
use Rattle.ident.proofs.Words.{key-four, hash_below}
use Rattle.saving.proofs.Places.{request-laid}
use Rattle.saving.proofs.request_lines.put_request.Goals as goal

pub returns : goal.returns
returns c = (
  omega (
    arith,
    c.put_key-e.ensures.0,
    c.next_owner-e.ensures.0,
    c.next_bool-e.ensures.0,
    c.next_place-e.ensures.0,
    c.next_bool-e-2.ensures.0,
    c.put_text.ensures.next,
  ),
  request-laid c.args.k
      c.requires.1
      (hash_below _ (key-four _ c.well_formed.1.1.1.0))
      c.eq.ensures
      c.put_key-e.ensures.1
      c.next_owner-e.ensures.1 c.next_bool-e.ensures.1
      c.next_place-e.ensures.1
      c.next_bool-e-2.ensures.1 c.put_text.ensures,
)
