-- A row is stored as its contract says.
use native.Mathlib.Omega.{arith}
use Rattle.words.specs.Words.{words}
use Rattle.words.proofs.Words.{length-words}
use Rattle.regions.proofs.Rows.{row_written}
use Rattle.regions.proofs.RowWholeRecord.write_at.Goals as goal

pub returns : goal.returns
returns c =
    let w = words c.args.s.now in
    row_written w c.args.a c.args.self (omega (arith, length-words c.args.s.now, c.requires)) c.write_quad.ensures c.put.ensures.word c.put-2.ensures.word c.put-3.ensures.word
    c.put-4.ensures.word c.put-5.ensures.word
