-- `wire::type_at` meets its contract.
use native.Mathlib.Omega.{arith}
use Rattle.wire.proofs.Filling.{four-digits}
use Rattle.wire.proofs.type_at.Goals as goal

pub returns : goal.returns
returns c =
    omega (arith, four-digits c.args.p.now c.args.a c.requires)
