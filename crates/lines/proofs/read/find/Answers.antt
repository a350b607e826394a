-- `lines::read::find` meets its contract.
use Prim.Native.Nat.{◌+◌, ◌-◌}
use mathlib.Core.Path.{◌≡◌, sym, ◌∙◌}
use native.Mathlib.Omega.{arith}
use Rattle.lines.proofs.Finding.{passed_on}
use Rattle.lines.proofs.read.find.Goals as goal

pub loop-at-preserved : goal.loop-at-preserved
loop-at-preserved c =
    let at = c.loop-at.at in
    let z : (at + 32) - at ≡ 32 = omega arith in
    passed_on c.loop-at.invariant 32 c.loop-at-test.true (rw z at (sym c.stands.ensures ∙ c.if-stands.false))
