-- `inventory::numbers::number_buffer` meets its contract.
use Prim.Native.Nat.{ℕ}
use lib.ListN.{length-replicate}
use Rattle.inventory.proofs.numbers.number_buffer.Goals as goal

pub returns : goal.returns
returns c = length-replicate {A = ℕ} 262144 0
