use Prim.Native.Nat.{◌-◌, ◌*◌}
use mathlib.Core.Path.{◌≡◌, ap, ◌∙◌}
use native.Mathlib.Omega.{arith}
use Rattle.words.specs.Words.{words}
use Rattle.words.proofs.Moves.{pasted_up}
use Rattle.words.proofs.Parts.{words_paste}
use Rattle.words.proofs.shift_up.Goals as goal

pub returns : goal.returns
returns c =
    let a = c.args in
    let e : a.m * 8 - 0 ≡ a.m * 8 = omega arith in
    ap words (rw e at c.copy_within.ensures.after) ∙ words_paste a.s.now a.d 0 a.m (omega arith) (omega arith) ∙ pasted_up a.d a.m (words a.s.now)
