-- `keeping::kept::EntryList::keep` meets its contract.
use native.Mathlib.Omega.{arith}
use Rattle.keeping.proofs.Keeping.{copied}
use Rattle.keeping.proofs.kept.EntryList.keep.Goals as goal

pub returns : goal.returns
returns c = copied _ c.args.answer.now c.args.n (omega (arith, c.requires.1)) c.copy_from_slice.ensures.after
