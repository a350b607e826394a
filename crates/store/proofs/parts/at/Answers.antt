use native.Mathlib.Omega.{arith}
use Prim.Native.Nat.{◌+◌}
use Rattle.store.proofs.Frame.{part-few, part-counts, part-lent, room_for}
use Rattle.store.proofs.parts.at.Goals as goal

pub read-requires : goal.read-requires
read-requires g c =
    let few = part-few g.met.R.Part.laws c.requires.0 in
    room_for _ _ (c.args.i + 1) c.bytes.ensures (omega (arith, few, c.requires.1))

pub returns : goal.returns
returns g c = λ f d h.
    let l = g.met.R.Part.laws in
    c.read.ensures.region _ (g.R.Part.shape.list f) d (omega (arith, part-counts l h, c.requires.1)) (part-lent l h c.bytes.ensures)
