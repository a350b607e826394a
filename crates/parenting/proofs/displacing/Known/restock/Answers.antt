-- `parenting::displacing::Known::restock` meets its contract.
use Rattle.std.proofs.Common.{rules}
use Rattle.parenting.proofs.Supplying.{restocked_none, restocked_listed}
use Rattle.parenting.proofs.displacing.Known.restock.Goals as goal

pub returns-then-self-eq0 : goal.returns-then-self-eq0
returns-then-self-eq0 c =
    restocked_none c.is_lacking.ensures c.if-not-is_lacking.false c.victim_anywhere.result (search rules) c.if-self-eq0.true c.victim_anywhere.ensures

pub returns-else-self-eq0 : goal.returns-else-self-eq0
returns-else-self-eq0 c = restocked_listed c.is_lacking.ensures c.if-not-is_lacking.false c.if-self-eq0.false c.list.ensures.1
