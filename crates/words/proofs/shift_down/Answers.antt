use Prim.Native.Nat.{◌+◌, ◌-◌, ◌*◌}
use mathlib.Core.Path.{◌≡◌, ap, ◌∙◌}
use native.Mathlib.Omega.{arith}
use Rattle.words.specs.Words.{words}
use Rattle.words.proofs.Moves.{pasted_down}
use Rattle.words.proofs.Parts.{words_paste}
use Rattle.words.proofs.Words.{length-words}
use Rattle.words.proofs.shift_down.Goals as goal

pub returns : goal.returns
returns c =
    let a = c.args in
    let e : (a.m + a.d) * 8 - a.d * 8 ≡ a.m * 8 = omega arith in
    ap words (rw e at c.copy_within.ensures.after) ∙ words_paste a.s.now 0 a.d a.m (omega arith) (omega arith)
    ∙ pasted_down a.d a.m (words a.s.now) (omega (arith, length-words a.s.now))
