-- `inventory::offers::put_offer` meets its contract.
use native.Mathlib.Omega.{arith}
use Rattle.inventory.proofs.Putting.{number_put}
use Rattle.inventory.proofs.offers.put_offer.Goals as goal

pub returns : goal.returns
returns c =
    record {
      item = c.put_item.ensures;
      priority = number_put c.args.priorities.now
          c.args.i c.args.priority
          (omega arith) (omega arith) c.put.ensures.bytes;
    }
