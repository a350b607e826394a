-- `keeping::kept::EntryList::keep_entries` meets its contract.
use mathlib.Core.Path.{refl}
use native.Mathlib.Omega.{arith}
use Rattle.keeping.proofs.Stepping.{entries_fit, refused_entries, listed_entries}
use Rattle.keeping.proofs.kept.EntryList.keep_entries.Goals as goal

pub keep-requires : goal.keep-requires
keep-requires g c = entries_fit c.in-Ok.is c.requires.1

pub put_entries-requires : goal.put_entries-requires
put_entries-requires g c = let f = entries_fit c.in-Ok.is c.requires.1 in (c.requires.0, f.0, omega (arith, f.1))

pub returns-in-Err : goal.returns-in-Err
returns-in-Err g c = refused_entries _ _ c.in-Err.is c.from.ensures refl c.refusal.ensures

pub returns-in-Ok : goal.returns-in-Ok
returns-in-Ok g c = listed_entries _ c.in-Ok.is c.keep.ensures c.put_entries.ensures
