-- `apart::slots::write_note` meets its contract.
use native.Mathlib.Omega.{arith}
use Rattle.words.specs.Words.{words}
use Rattle.words.proofs.Words.{length-words}
use Rattle.apart.proofs.SlotWords.{two_put}
use Rattle.apart.proofs.slots.write_note.Goals as goal

pub returns : goal.returns
returns c = two_put (words c.args.region.now) c.args.i c.args.x.low c.args.x.high (omega (
  arith,
  length-words c.args.region.now,
  c.requires,
)) c.put.ensures.word c.put-2.ensures.word
