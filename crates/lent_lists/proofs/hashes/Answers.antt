-- `lent_lists::hashes` meets its contract.
use mathlib.Core.Path.{sym}
use Rattle.lent_lists.proofs.Given.{length-hashes}
use Rattle.lent_lists.proofs.hashes.Goals as goal

pub returns : goal.returns
returns c = sym (length-hashes c.args.s.now)
