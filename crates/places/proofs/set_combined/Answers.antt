use native.Mathlib.Omega.{arith}
use Rattle.words.specs.Words.{words}
use Rattle.words.proofs.Words.{length-words}
use Rattle.regions.specs.Rows.{quad_words, quad_number}
use Rattle.places.specs.Places.{place_size, place_words, combined_at, with_combined}
use Rattle.places.proofs.Places.{length-place, combined-set}
use Rattle.regions.proofs.Regions.{changed_at}
use Rattle.places.proofs.set_combined.Goals as goal

pub returns : goal.returns
returns c =
    changed_at place_size place_words length-place (words c.args.s.now) c.args.i (omega (arith, length-words c.args.s.now, c.requires)) combined_at
    (quad_words c.args.h) (with_combined (quad_number c.args.h)) (omega arith) (combined-set c.args.h (omega arith)) c.write_quad.ensures
