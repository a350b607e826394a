use native.Mathlib.Omega.{arith}
use Rattle.announcing.proofs.Scanning.{prio_higher, prio-lower, prio_same}
use Rattle.announcing.proofs.evict.after.Goals as goal

pub returns-then-b-a : goal.returns-then-b-a
returns-then-b-a c = prio_higher c.args.a c.args.b c.if-b-a.true

pub returns-then-a-b : goal.returns-then-a-b
returns-then-a-b c = prio-lower c.args.a c.args.b c.if-a-b.true

pub returns : goal.returns
returns c = prio_same c.args.a c.args.b
    (omega (arith, c.if-b-a.false, c.if-a-b.false)) c.key_after.ensures
