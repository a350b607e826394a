use Rattle.words.specs.Words.{words}
use Rattle.regions.proofs.Rows.{key-read}
use Rattle.regions.proofs.key_at.Goals as goal

pub returns : goal.returns
returns c =
    key-read (words c.args.s.now) c.args.i c.from-kind.ensures c.get.ensures c.read_quad-hash.ensures
