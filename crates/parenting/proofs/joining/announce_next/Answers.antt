-- `parenting::joining::announce_next` meets its contract.
use native.Mathlib.Omega.{arith}
use Rattle.parenting.proofs.Waiting.{parent_low, next_alone, let_kept, waits_same, none_more}
use Rattle.announcing.proofs.Lent.{peer_of}
use Rattle.parenting.proofs.Adopting.{next_adopted}
use Rattle.parenting.proofs.joining.announce_next.Goals as goal

pub announce_parent-requires : goal.announce_parent-requires
announce_parent-requires c = let_kept c.let_in.ensures.0
    (rw (none_more c.args.new.now.count c.wait_with.ensures.1 c.if-wait_with.false, c.adopt_beside.ensures.alone c.if-adopt_beside.false)
    (waits_same (c.wait_with.ensures.0.alone c.if-wait_with.false) c.requires))

pub returns : goal.returns
returns c = rw c.let_in.ensures.1 (next_alone (peer_of c.args.p.connection (omega arith)) (omega arith) (omega arith) (parent_low c.args.p c.well_formed.1.1.0)
    (c.wait_with.ensures.0.alone c.if-wait_with.false)
    (rw (none_more c.args.new.now.count c.wait_with.ensures.1 c.if-wait_with.false, c.adopt_beside.ensures.alone c.if-adopt_beside.false) at c.let_in.ensures.0) c.announce_parent.ensures)

pub returns-then-adopt_beside : goal.returns-then-adopt_beside
returns-then-adopt_beside c =
    next_adopted (c.wait_with.ensures.0.alone c.if-wait_with.false)
    (none_more c.args.new.now.count c.wait_with.ensures.1 c.if-wait_with.false) c.adopt_beside.ensures c.if-adopt_beside.true
