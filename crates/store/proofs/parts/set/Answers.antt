use native.Mathlib.Omega.{arith}
use Prim.Native.Nat.{◌+◌, ◌<◌}
use lib.ListN.{length, set, length-set}
use borrow.Author.Rules.{rules}
use Rattle.store.proofs.Frame.{part-few, part-counts, part-lent, part_back, part_same, room_for}
use Rattle.store.proofs.parts.set.Goals as goal

pub write-requires : goal.write-requires
write-requires g c =
    let few = part-few g.met.R.Part.laws c.requires.0 in
    room_for _ _ (c.args.i + 1) c.bytes-part.ensures (omega (arith, few, c.requires.1))

pub returns : goal.returns
returns g c = λ f h.
    let l = g.met.R.Part.laws in
    let xs = g.R.Part.shape.list f in
    let i : c.args.i < length xs = omega (arith, part-counts l h, c.requires.1) in
    let held = c.write.ensures.region _ xs i (part-lent l h c.bytes-part.ensures) in
    part_same l h (search rules) (set xs c.args.i c.args.r) (length-set xs c.args.i c.args.r) (part_back l h c.bytes-part.ensures _ _ c.write.auto.s held)
