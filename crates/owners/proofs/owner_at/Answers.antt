-- `owners::owner_at` meets its contract: three words.
use Rattle.owners.proofs.Back.{reads_nobody, reads-owner}
use Rattle.owners.proofs.owner_at.Goals as goal

pub returns-then-tag-eq0 : goal.returns-then-tag-eq0
returns-then-tag-eq0 c = reads_nobody c.args.answer.now c.args.i c.requires c.get-tag.ensures c.if-tag-eq0.true

pub returns : goal.returns
returns c = reads-owner c.args.answer.now c.args.i c.requires c.get-tag.ensures c.if-tag-eq0.false c.from.ensures c.get.ensures c.get-2.ensures
