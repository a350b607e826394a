use native.Mathlib.Omega.{arith}
use Rattle.words.specs.Words.{words}
use Rattle.words.proofs.Words.{length-words}
use Rattle.places.specs.Places.{wtxids_at, wtxid_count_at, with_wtxids}
use Rattle.places.proofs.Places.{wtxid-push}
use Rattle.places.proofs.Changes.{pushed}
use Rattle.places.proofs.push_wtxid.Goals as goal

pub returns : goal.returns
returns c =
    pushed (words c.args.s.now) c.args.i (omega (arith, length-words c.args.s.now, c.requires)) wtxids_at wtxid_count_at c.args.n
    (λ p. p.wtxids) with_wtxids c.args.h (omega arith) (omega arith) c.requires.0 (λ p. wtxid-push p c.args.h (omega arith) c.args.n c.requires.0)
    c.write_quad.ensures c.put.ensures.word
