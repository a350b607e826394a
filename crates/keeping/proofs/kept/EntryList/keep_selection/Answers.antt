-- `keeping::kept::EntryList::keep_selection` meets its contract.
use mathlib.Core.Path.{refl}
use Rattle.keeping.proofs.Stepping.{selection-fits, refused_selection, listed_selection}
use Rattle.keeping.proofs.kept.EntryList.keep_selection.Goals as goal

pub keep-requires : goal.keep-requires
keep-requires g c = selection-fits c.in-Ok.is c.requires.1

pub put_selection-requires : goal.put_selection-requires
put_selection-requires g c = let f = selection-fits c.in-Ok.is c.requires.1 in (c.requires.0, f.0, f.1)

pub returns-in-Err : goal.returns-in-Err
returns-in-Err g c = refused_selection _ _ c.in-Err.is c.from.ensures refl c.refusal.ensures

pub returns-in-Ok : goal.returns-in-Ok
returns-in-Ok g c = listed_selection _ c.in-Ok.is c.keep.ensures c.put_selection.ensures
