use native.Mathlib.Omega.{arith}
use Rattle.words.specs.Words.{words}
use Rattle.words.proofs.Words.{length-words}
use Rattle.places.specs.Places.{parents_at}
use Rattle.places.proofs.Places.{parent-at}
use Rattle.places.proofs.Changes.{hash_at_lem}
use Rattle.places.proofs.read_parent.Goals as goal

pub returns : goal.returns
returns c =
    hash_at_lem (words c.args.s.now) c.args.i (omega (arith, length-words c.args.s.now, c.requires)) parents_at (λ p. p.parents) c.args.j (omega arith)
    c.requires.0 parent-at c.read_quad.ensures
