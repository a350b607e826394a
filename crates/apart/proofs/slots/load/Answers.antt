-- `apart::slots::load` meets its contract.
use native.Mathlib.Omega.{arith}
use Rattle.apart.proofs.Slotted.{loaded_later}
use Rattle.apart.proofs.slots.load.Goals as goal

pub returns-else-i-eq0 : goal.returns-else-i-eq0
returns-else-i-eq0 c = loaded_later c.args.m c.args.i _ (omega (arith, c.if-i-eq0.false)) c.copy_out.ensures
