use Rattle.announcing.proofs.Scanning.{row-passes}
use Rattle.announcing.proofs.evict.greater.Goals as goal

pub returns-then-passed : goal.returns-then-passed
returns-then-passed c = row-passes c.args.r c.args.best c.passed.ensures c.if-passed.true
