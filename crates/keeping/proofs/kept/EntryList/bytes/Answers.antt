-- `keeping::kept::EntryList::bytes` meets its contract.
use mathlib.Core.Path.{◌∙◌}
use native.Mathlib.Omega.{arith}
use Rattle.keeping.proofs.Keeping.{entries-of}
use Rattle.keeping.proofs.kept.EntryList.bytes.Goals as goal

pub returns-clause-entries : goal.returns-clause-entries
returns-clause-entries c = entries-of c.self.inside.bytes c.self.inside.count (omega (arith, c.self.invariant, c.self.told)) ∙ c.self.view_is
