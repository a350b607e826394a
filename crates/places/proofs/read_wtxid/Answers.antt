use native.Mathlib.Omega.{arith}
use Rattle.words.specs.Words.{words}
use Rattle.words.proofs.Words.{length-words}
use Rattle.places.specs.Places.{wtxids_at}
use Rattle.places.proofs.Places.{wtxid-at}
use Rattle.places.proofs.Changes.{hash_at_lem}
use Rattle.places.proofs.read_wtxid.Goals as goal

pub returns : goal.returns
returns c =
    hash_at_lem (words c.args.s.now) c.args.i (omega (arith, length-words c.args.s.now, c.requires)) wtxids_at (λ p. p.wtxids) c.args.j (omega arith)
    c.requires.0 wtxid-at c.read_quad.ensures
