use Rattle.words.proofs.Words.{put-eight}
use Rattle.words.proofs.put.Goals as goal

pub returns : goal.returns
returns c = put-eight c.args.s.now c.args.i c.args.v c.requires c.ranges.v.fits c.to_le_bytes.ensures
