-- `regions::kinds::read` meets its contract.
use native.Mathlib.Omega.{arith}
use Rattle.words.specs.Words.{words}
use Rattle.words.proofs.Words.{length-words}
use Rattle.regions.proofs.Records.{read_found}
use Rattle.regions.proofs.kinds.read.Goals as goal

pub returns : goal.returns
returns g c =
    let w = words c.args.s.now in
    read_found g.met.R.WholeRecord.laws w c.args.i c.WORDS.ensures (omega (arith, length-words c.args.s.now, c.requires)) c.read_at.ensures
