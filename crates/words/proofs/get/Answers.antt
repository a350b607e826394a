use native.Mathlib.Omega.{arith}
use Rattle.words.proofs.Words.{word_sum}
use Rattle.words.proofs.get.Goals as goal

pub returns : goal.returns
returns c =
    omega (arith, word_sum c.args.s.now c.args.i c.requires)
