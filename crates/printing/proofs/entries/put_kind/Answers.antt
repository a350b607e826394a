-- `printing::entries::put_kind` meets its contract.
use native.Mathlib.Omega.{arith}
use Rattle.printing.proofs.Printing.{decimal_end}
use Rattle.printing.proofs.EntryLists.{wrote_other}
use Rattle.printing.proofs.entries.put_kind.Goals as goal

pub put_bytes-requires-in-Other : goal.put_bytes-requires-in-Other
put_bytes-requires-in-Other c =
    omega (
      arith,
      c.put_bytes-from.ensures.next,
      c.put_bytes-from.auto,
      decimal_end _ c.put_decimal-e.ensures,
      c.put_decimal-e.auto,
    )

pub returns-in-Other : goal.returns-in-Other
returns-in-Other c = wrote_other c.in-Other.is
    c.requires
    c.put_bytes-from.ensures
    c.put_decimal-e.ensures c.put_bytes-in-Other.ensures
