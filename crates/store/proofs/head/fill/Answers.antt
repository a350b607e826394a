use native.Mathlib.Omega.{arith}
use Prim.Native.Nat.{◌/◌}
use mathlib.Core.Path.{◌∙◌}
use lib.ListN.{length}
use Rattle.words.specs.Words.{words}
use Rattle.words.proofs.Words.{length-words}
use Rattle.machine.specs.Limits.{need}
use Rattle.store.proofs.Frame.{filled}
use Rattle.store.proofs.head.fill.Goals as goal

pub put-requires : goal.put-requires
unfolding need
put-requires c = omega (arith, c.requires.2)

pub put-requires-2 : goal.put-requires-2
unfolding need
put-requires-2 c = omega (arith, c.requires.2)

pub put-requires-3 : goal.put-requires-3
unfolding need
put-requires-3 c = omega (arith, c.requires.2)

pub returns : goal.returns
unfolding need
returns c =
    let l = c.args.l in
    let q = c.args.q in
    let s = c.args.s.now in
    let d = length s / 8 in
    filled l q d (words s) (c.put-3.auto.s ∙ c.put-2.auto.s ∙
    c.put.auto.s ∙
    c.clear.auto.s ∙
    c.requires.2) (length-words s)
    (omega (arith, c.requires.2))
    c.clear.ensures
    c.put.ensures.word c.put-2.ensures.word
    c.put-3.ensures.word
