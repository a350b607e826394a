use native.Mathlib.Omega.{arith}
use Rattle.words.specs.Words.{words}
use Rattle.words.proofs.Words.{length-words}
use Rattle.places.specs.Places.{place_size, place_words, stage_at, with_stage}
use Rattle.places.proofs.Places.{length-place, stage-set}
use Rattle.regions.proofs.Regions.{changed_one}
use Rattle.places.proofs.set_stage.Goals as goal

pub returns : goal.returns
returns c =
    changed_one place_size place_words length-place (words c.args.s.now) c.args.i (omega (arith, length-words c.args.s.now, c.requires)) stage_at c.args.v
    (with_stage c.args.v) (omega arith) (stage-set c.args.v) c.put.ensures.word
