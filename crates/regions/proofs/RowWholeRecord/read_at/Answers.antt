-- A row is read as its contract says.
use Rattle.words.specs.Words.{words}
use Rattle.regions.proofs.Rows.{row_read}
use Rattle.regions.proofs.RowWholeRecord.read_at.Goals as goal

pub returns : goal.returns
returns c =
    row_read (words c.args.s.now) c.args.a c.read_quad.ensures c.get.ensures c.get-2.ensures c.get-3.ensures c.get-4.ensures c.get-5.ensures
