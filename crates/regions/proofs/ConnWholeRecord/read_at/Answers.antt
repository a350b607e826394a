-- An entry is read as its contract says.
use Rattle.words.specs.Words.{words}
use Rattle.regions.proofs.Rows.{conn_read}
use Rattle.regions.proofs.ConnWholeRecord.read_at.Goals as goal

pub returns : goal.returns
returns c =
    conn_read (words c.args.s.now) c.args.a c.get.ensures c.get-2.ensures c.get-3.ensures
