-- `lent_lists::items` meets its contract.
use mathlib.Core.Path.{sym}
use Rattle.lent_lists.proofs.Inventory.{length-items}
use Rattle.lent_lists.proofs.items.Goals as goal

pub returns : goal.returns
returns c = sym (length-items c.args.b.now)
