-- `printing::entries::put_candidate` meets its contract.
use native.Mathlib.Omega.{arith}
use Rattle.ident.specs.Words.{item_num}
use Rattle.requests.specs.Changes.{candidate_of}
use Rattle.printing.proofs.EntryLists.{number_end, item_end, bool_end, wrote-candidate}
use Rattle.printing.proofs.entries.put_candidate.Goals as goal

pub put_bytes-from-requires : goal.put_bytes-from-requires
put_bytes-from-requires c = omega (arith, number_end _ c.put_number-e.ensures, c.put_number-e.auto)

pub put_item-e-requires : goal.put_item-e-requires
put_item-e-requires c = omega (
  arith,
  number_end _ c.put_number-e.ensures,
  c.put_number-e.auto,
  c.put_bytes-from.ensures.next,
  c.put_bytes-from.auto,
)

pub put_number-e-requires-2 : goal.put_number-e-requires-2
put_number-e-requires-2 c =
    omega (
      arith,
      number_end _ c.put_number-e.ensures,
      c.put_number-e.auto,
      c.put_bytes-from.ensures.next,
      c.put_bytes-from.auto,
      item_end (item_num c.args.c.item)
          c.put_item-e.ensures,
      c.put_item-e.auto,
    )

pub put_bool-e-requires : goal.put_bool-e-requires
put_bool-e-requires c =
    omega (
      arith,
      number_end _ c.put_number-e.ensures,
      c.put_number-e.auto,
      c.put_bytes-from.ensures.next,
      c.put_bytes-from.auto,
      item_end (item_num
          c.args.c.item)
          c.put_item-e.ensures,
      c.put_item-e.auto,
      number_end _ c.put_number-e-2.ensures,
      c.put_number-e-2.auto,
    )

pub put_number-requires : goal.put_number-requires
put_number-requires c =
    omega (
      arith,
      number_end _
          c.put_number-e.ensures,
      c.put_number-e.auto,
      c.put_bytes-from.ensures.next,
      c.put_bytes-from.auto,
      item_end (item_num c.args.c.item) c.put_item-e.ensures,
      c.put_item-e.auto,
      number_end _ c.put_number-e-2.ensures,
      c.put_number-e-2.auto,
      bool_end c.args.c.preferred c.put_bool-e.ensures,
      c.put_bool-e.auto,
    )

pub returns : goal.returns
returns c =
    wrote-candidate (candidate_of c.args.c) c.requires c.put_number-e.ensures
    c.put_bytes-from.ensures
    c.put_item-e.ensures
    c.put_number-e-2.ensures c.put_bool-e.ensures
    c.put_number.ensures
