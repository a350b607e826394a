-- `lent_lists::offers` meets its contract.
use native.Mathlib.Omega.{arith}
use Rattle.words.specs.Words.{words}
use Rattle.words.proofs.Words.{length-words}
use Rattle.lent_lists.specs.Items.{items_in}
use Rattle.lent_lists.proofs.Inventory.{length-paired}
use Rattle.lent_lists.proofs.offers.Goals as goal

pub returns : goal.returns
returns c = omega (arith, c.min.ensures, c.items.ensures, length-words c.args.priorities.now, length-paired (items_in c.args.b.now) (words c.args.priorities.now))
