-- `regions::kinds::write` meets its contract.
use native.Mathlib.Omega.{arith}
use Rattle.words.specs.Words.{words}
use Rattle.words.proofs.Words.{length-words}
use Rattle.regions.proofs.Records.{write_replaced}
use Rattle.regions.proofs.kinds.write.Goals as goal

pub returns : goal.returns
returns g c =
    let w = words c.args.s.now in
    write_replaced g.met.R.WholeRecord.laws w c.args.i c.WORDS.ensures c.args.r (omega (arith, length-words c.args.s.now, c.requires)) c.write_at.ensures
