-- `printing::entries::put_entry` meets its contract.
use native.Mathlib.Omega.{arith}
use Rattle.printing.proofs.EntryLists.{key_end, wrote-entry}
use Rattle.printing.proofs.entries.put_entry.Goals as goal

pub put_candidate-requires : goal.put_candidate-requires
put_candidate-requires c = omega (
  arith,
  key_end _ c.put_key-e.ensures,
  c.put_key-e.auto,
  c.requires.1,
)

pub returns : goal.returns
returns c = wrote-entry c.entry_in-a.ensures
    c.requires.1 c.put_key-e.ensures
    c.put_candidate.ensures
