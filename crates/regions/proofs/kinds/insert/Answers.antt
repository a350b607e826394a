-- `regions::kinds::insert` meets its contract.
use native.Mathlib.Omega.{arith}
use Rattle.words.specs.Words.{words}
use Rattle.words.proofs.Words.{length-words}
use Rattle.regions.proofs.Records.{moved_up}
use Rattle.regions.proofs.Regions.{inserted_at}
use Rattle.regions.proofs.kinds.insert.Goals as goal

pub returns : goal.returns
returns g c =
    let r = g.R.Record in
    let l = g.met.R.WholeRecord.laws in
    let a = c.args in
    let moved = moved_up g.R.Record.laws a.s.now c.up_by.new.s a.i a.n c.WORDS-size.ensures c.requires.0 c.requires.1 c.up_by.auto.s c.up_by.ensures in
    inserted_at r.WORDS g.R.WholeRecord.as_words l.sized (words a.s.now) a.i a.n a.r c.requires.0 (omega (arith, length-words a.s.now, c.requires)) moved c.write.ensures.words_are
