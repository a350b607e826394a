use native.Mathlib.Omega.{arith}
use Rattle.words.specs.Words.{words}
use Rattle.words.proofs.Words.{length-words}
use Rattle.regions.proofs.Rows.{quad_written}
use Rattle.regions.proofs.write_quad.Goals as goal

pub returns : goal.returns
returns c =
    quad_written (words c.args.s.now) c.args.a c.args.q (omega (arith, length-words c.args.s.now, c.requires))
    c.put.ensures.word
    c.put-2.ensures.word c.put-3.ensures.word
    c.put-4.ensures.word
