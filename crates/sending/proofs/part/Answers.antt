-- `sending::part` meets its contract: two searches, by proofs/Parting.
use Prim.Native.Nat.{◌+◌}
use mathlib.Core.Path.{refl}
use borrow.Author.Rules.{rules}
use lib.Dec.{ltb, leb}
use Rattle.std.proofs.lemmas.List.Sorted.{IsPartitionedBy-leb, IsPartitionedBy-ltb, IsPartitionPoint-from_clause}
use Rattle.claiming.specs.declared.Entry.{Entry}
use Rattle.sending.proofs.Parting.{at_most, sought, parted}
use Rattle.sending.proofs.part.Goals as goal

pub returns : goal.returns
returns c =
    let l = c.args.list.now in
    let n = c.args.connection in
    let first = c.partition_point-first in
    let end = c.partition_point-end in
    let below = λ (e : Entry). ltb e.candidate.connection n in
    let within = λ (e : Entry). leb e.candidate.connection n in
    rw c.max.ensures (parted n l
    (sought l n first.result below (λ e. refl) first.ensures.bound
    (λ s. IsPartitionPoint-from_clause below l first.result first.ensures.partitioned (IsPartitionedBy-ltb (λ e. e.candidate.connection) l n s) (λ x r f k. search rules)))
    (sought l (n + 1) end.result within (λ e. at_most e.candidate.connection n) end.ensures.bound
    (λ s. IsPartitionPoint-from_clause within l end.result end.ensures.partitioned (IsPartitionedBy-leb (λ e. e.candidate.connection) l n s) (λ x r f k. search rules))))
