-- `keeping::kept::EntryList::none` meets its contract.
use Rattle.keeping.proofs.Keeping.{no_entries}
use Rattle.keeping.proofs.kept.EntryList.none.Goals as goal

pub returns : goal.returns
returns c = no_entries _
