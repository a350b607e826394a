-- `announcing::parents::announce_parent` meets its contract.
use native.Mathlib.Omega.{arith}
use Rattle.ident.specs.Words.{hash_num}
use Rattle.announcing.proofs.OneParent.{asked_kept, parent-marked}
use Rattle.announcing.proofs.Lent.{hash_low, peer_of}
use Rattle.announcing.proofs.parents.announce_parent.Goals as goal

pub mark-requires : goal.mark-requires
mark-requires c =
    let h = c.args.h in
    asked_kept c.args.n.number c.args.clock (hash_num h) c.args.priority (peer_of c.args.n (omega arith)) (omega arith)
    (omega arith) (hash_low h c.well_formed.1.1.1.0) _ c.from-k.ensures
    _ c.offered-c.ensures c.request_parent_at.ensures c.requires

pub returns-then-request_parent_at : goal.returns-then-request_parent_at
returns-then-request_parent_at c =
    let h = c.args.h in
    parent-marked c.args.n.number c.args.clock (hash_num h) c.args.priority (peer_of c.args.n (omega arith)) (omega arith)
    (omega arith) (hash_low h c.well_formed.1.1.1.0) _ c.from-k.ensures
    _ c.offered-c.ensures c.request_parent_at.ensures c.if-request_parent_at.true c.mark.ensures
