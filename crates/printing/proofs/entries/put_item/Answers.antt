-- `printing::entries::put_item` meets its contract.
use native.Mathlib.Omega.{arith}
use Rattle.printing.proofs.EntryLists.{kind_end, wrote-item}
use Rattle.printing.proofs.entries.put_item.Goals as goal

pub put_hash-requires : goal.put_hash-requires
put_hash-requires c = omega (
  arith,
  kind_end c.args.item.kind c.put_kind-e.ensures,
  c.put_kind-e.auto,
)

pub returns : goal.returns
returns c = wrote-item c.args.item.kind
    c.requires c.put_kind-e.ensures
    c.from.ensures c.put_hash.ensures
