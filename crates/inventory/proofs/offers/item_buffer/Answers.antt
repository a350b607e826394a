-- `inventory::offers::item_buffer` meets its contract.
use Prim.Native.Nat.{ℕ}
use lib.ListN.{length-replicate}
use Rattle.inventory.proofs.offers.item_buffer.Goals as goal

pub returns : goal.returns
returns c = length-replicate {A = ℕ} 524280 0
