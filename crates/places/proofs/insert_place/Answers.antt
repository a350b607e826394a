use native.Mathlib.Omega.{arith}
use Rattle.words.specs.Words.{words}
use Rattle.words.proofs.Words.{length-words}
use Rattle.places.proofs.Changes.{place-in}
use Rattle.places.proofs.insert_place.Goals as goal

pub returns : goal.returns
returns c =
    place-in (words c.args.s.now) c.args.n c.args.i c.requires.0 (omega (arith, length-words c.args.s.now, c.requires)) c.args.h c.args.stage
    (omega arith) (omega (
      arith,
      length-words c.move_up.new.s,
      c.move_up.auto.s,
      c.requires,
    ))
    c.move_up.ensures
    c.clear.ensures c.write_quad.ensures
    c.put.ensures.word
