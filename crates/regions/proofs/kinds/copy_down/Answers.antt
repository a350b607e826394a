use native.Mathlib.Omega.{arith}
use Prim.Native.Nat.{◌+◌, ◌-◌}
use Rattle.words.specs.Words.{words}
use Rattle.words.proofs.Words.{length-words}
use Rattle.words.proofs.Parts.{back_down}
use Rattle.regions.proofs.Gap.{copied_by}
use Rattle.regions.proofs.kinds.copy_down.Goals as goal

pub returns : goal.returns
returns c =
    let e = c.args.a + c.args.d in
    let by = c.args.b - c.args.a in
    let moved = back_down by c.args.s.now c.shift_down.new.s c.args.a e (omega arith) (omega arith) c.shift_down.auto.s
    c.shift_down.ensures in
    copied_by (words c.args.s.now) c.args.a c.args.b c.args.d c.requires.0 (omega (arith, length-words c.args.s.now, c.requires)) moved
