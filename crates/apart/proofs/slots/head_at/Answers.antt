-- `apart::slots::head_at` meets its contract.
use native.Mathlib.Omega.{arith}
use Rattle.apart.proofs.Slotted.{head_first, head-later}
use Rattle.apart.proofs.slots.head_at.Goals as goal

pub returns-then-i-eq0 : goal.returns-then-i-eq0
returns-then-i-eq0 c = head_first c.args.m c.args.i (omega (arith, c.if-i-eq0.true)) c.read_head.ensures

pub returns : goal.returns
returns c = head-later c.args.m c.args.i (omega (arith, c.if-i-eq0.false)) c.read_head-2.ensures
