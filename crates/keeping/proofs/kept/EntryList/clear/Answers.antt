-- `keeping::kept::EntryList::clear` meets its contract.
use Rattle.keeping.proofs.Keeping.{no_entries}
use Rattle.keeping.proofs.kept.EntryList.clear.Goals as goal

pub returns : goal.returns
returns c = no_entries _
