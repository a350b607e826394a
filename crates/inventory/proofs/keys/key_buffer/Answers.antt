-- `inventory::keys::key_buffer` meets its contract.
use Prim.Native.Nat.{ℕ}
use lib.ListN.{length-replicate}
use Rattle.inventory.proofs.keys.key_buffer.Goals as goal

pub returns : goal.returns
returns c = length-replicate {A = ℕ} 873800 0
