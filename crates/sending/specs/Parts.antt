-- One connection's part of an arranged list, of entries and of entry structs.
use Rattle.std.specs.Prelude.{ℕ, ◌+◌, ◌≤◌, ◌≡◌, List, map, length, take, drop}
use Rattle.regions.specs.Order.{Sorted}
use Rattle.machine.specs.State as machine
use Rattle.machine.specs.Claim.{part_of}
use Rattle.claiming.specs.declared.Entry.{Entry}
use Rattle.claiming.specs.Claiming.{entry_of}

abbrev pub connections_in : List machine.Entry → List ℕ
connections_in l = map (λ (a : machine.Entry). a.candidate.connection) l

-- "one connection's requests are handed back as that part of the arranged list": count entries of l from the first on, and the connection n's if l is "arranged by
-- ascending connection"
pub record PartIs (n : ℕ) (l : List machine.Entry) (first count : ℕ) : Type 0 where
  pub inside : first + count ≤ length l
  pub arranged : Sorted (connections_in l) → take count (drop first l) ≡ part_of n l

-- the same of entry structs: p is a part of l, and the connection n's if l is arranged
pub record Parted (n : ℕ) (l p : List Entry) : Type 0 where
  pub first : ℕ
  pub count : ℕ
  pub part : p ≡ take count (drop first l)
  pub arranged : Sorted (connections_in (map entry_of l)) → map entry_of p ≡ part_of n (map entry_of l)
