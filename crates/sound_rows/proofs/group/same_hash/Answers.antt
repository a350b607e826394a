use native.Mathlib.Omega.{arith}
use Rattle.sound_rows.proofs.Quads.{quads_decide}
use Rattle.sound_rows.proofs.group.same_hash.Goals as goal

pub returns : goal.returns
returns c = quads_decide c.args.a c.args.b
    (record { w0 = omega arith; w1 = omega arith; w2 = omega arith; w3 = omega arith }) (record { w0 = omega arith; w1 = omega arith; w2 = omega arith; w3 = omega arith })
    c.eq.result c.eq.ensures
