-- Bytes that write a sound state have room for the header.
use Prim.Native.Nat.{ℕ, ◌*◌, ◌≤◌}
use mathlib.Core.List.{List}
use native.Mathlib.Omega.{arith}
use lib.ListN.{length}
use Rattle.store.specs.Image.{head_size}
use Rattle.store.specs.Shown.{Kept}
use Rattle.requests.proofs.Keeping.{kept_shown}

pub kept_head : {b : List ℕ} → Kept b → 8 * head_size ≤ length b
kept_head k = let z = (kept_shown k).sizes in omega arith
