-- What `arrange` gives ascends by connection, so that a part of it is the connection's.
use Prim.Native.Nat.{ℕ, ◌≤◌}
use mathlib.Core.Path.{◌≡◌, sym, ap, subst, ◌∙◌}
use mathlib.Core.Logic.{inl, inr}
use mathlib.Core.List.{List, [], ◌∷◌, map}
use native.Mathlib.Omega.{arith}
use borrow.Author.Tests.{leb-true, leb-false}
use lib.Dec.{leb}
use Rattle.regions.specs.Order.{Sorted}
use Rattle.machine.specs.State as machine
use Rattle.machine.specs.State.{Table}
use Rattle.machine.specs.Claim.{for_witness, insert_by_connection, sort_by_connection, arrange, part_of}
use Rattle.machine.proofs.Tests.{test}
use Rattle.store.proofs.Bounds.{Ascend, ascend-sorted}
use Rattle.claiming.specs.declared.Entry.{Entry}
use Rattle.claiming.specs.Claiming.{entry_of}
use Rattle.sending.specs.Parts.{connections_in, Parted}

ascend-insert : (lo : ℕ) (a : machine.Entry) (l : List machine.Entry) → lo ≤ a.candidate.connection → Ascend lo (connections_in l) → Ascend lo (connections_in (insert_by_connection a l))
unfolding insert_by_connection
ascend-insert lo a [] h v = (h, tt)
ascend-insert lo a (b ∷ l) h v = elim (test (leb a.candidate.connection b.candidate.connection)) [
  | inl t ↦ rw t (h, (leb-true a.candidate.connection b.candidate.connection t, v.1))
  | inr t ↦ rw t (v.0, ascend-insert b.candidate.connection a l (omega (arith, leb-false a.candidate.connection b.candidate.connection t)) v.1)
]

ascend-sort : (l : List machine.Entry) → Ascend 0 (connections_in (sort_by_connection l))
unfolding sort_by_connection
ascend-sort [] = tt
ascend-sort (a ∷ l) = ascend-insert 0 a (sort_by_connection l) (omega arith) (ascend-sort l)

-- "arranged by ascending connection"
pub arrange-sorted : (ws : List ℕ) (l : List machine.Entry) (t : Table) → Sorted (connections_in (arrange ws l t))
unfolding arrange
arrange-sorted ws l t = ascend-sorted 0 (connections_in (arrange ws l t)) (ascend-sort (map (for_witness ws t) l))

-- "one connection's requests are handed back as that part of the arranged list"
pub part_of_arranged : (n : ℕ) (ws : List ℕ) (k : List machine.Entry) (t : Table) {l p : List Entry} → map entry_of l ≡ arrange ws k t → Parted n l p → map entry_of p ≡ part_of n (arrange ws k t)
part_of_arranged n ws k t {l} e v =
    v.arranged (subst Sorted (ap connections_in (sym e)) (arrange-sorted ws k t)) ∙ ap (part_of n) e
