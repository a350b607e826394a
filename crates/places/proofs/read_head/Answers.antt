use native.Mathlib.Omega.{arith}
use Rattle.words.specs.Words.{words}
use Rattle.words.proofs.Words.{length-words}
use Rattle.places.proofs.Changes.{head_at, head_read}
use Rattle.places.proofs.read_head.Goals as goal

pub returns : goal.returns
returns c =
    head_at (words c.args.s.now) c.args.i (omega (arith, length-words c.args.s.now, c.requires)) (head_read (words c.args.s.now) c.args.i
    c.read_quad-hash.ensures c.read_quad-combined.ensures c.get-stage.ensures c.get-wtxids.ensures c.get-parents.ensures)
