-- `reading::hashes::hash_buffer` meets its contract.
use Prim.Native.Nat.{ℕ}
use lib.ListN.{length-replicate}
use Rattle.reading.proofs.hashes.hash_buffer.Goals as goal

pub returns : goal.returns
returns c = length-replicate {A = ℕ} 1048576 0
