-- `regions::kinds::truncate` meets its contract.
use native.Mathlib.Omega.{arith}
use Rattle.words.specs.Words.{words}
use Rattle.words.proofs.Words.{length-words}
use Rattle.regions.proofs.Regions.{truncated}
use Rattle.regions.proofs.kinds.truncate.Goals as goal

pub returns : goal.returns
returns g c =
    let w = words c.args.s.now in
    let r = g.R.Record in
    truncated r.WORDS r.to_words r.laws.sized w c.args.m c.args.n c.requires.0 (omega (arith, length-words c.args.s.now, c.requires)) (rw c.WORDS-size.ensures at c.clear.ensures)
