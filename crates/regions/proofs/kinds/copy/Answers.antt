-- `regions::kinds::copy` meets its contract.
use native.Mathlib.Omega.{arith}
use Rattle.words.specs.Words.{words}
use Rattle.words.proofs.Words.{length-words}
use Rattle.regions.proofs.Regions.{copied}
use Rattle.regions.proofs.kinds.copy.Goals as goal

pub returns : goal.returns
returns g c =
    let w = words c.args.s.now in
    let r = g.R.Record in
    copied r.WORDS r.to_words r.laws.sized w c.args.to c.args.from c.requires.0 (omega (arith, length-words c.args.s.now, c.requires)) (rw c.WORDS-size.ensures at c.copy_down.ensures)
