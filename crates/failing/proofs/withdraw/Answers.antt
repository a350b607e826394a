use mathlib.Core.Path.{sym, ◌∙◌}
use Rattle.ident.specs.Words.{key_num}
use Rattle.failing.proofs.Leaving.{nothing-cut}
use Rattle.failing.proofs.withdraw.Goals as goal

pub returns-else-holds : goal.returns-else-holds
returns-else-holds c = λ st s w e. nothing-cut st s (key_num c.args.k) c.args.n (sym (c.holds.ensures st s w) ∙ c.if-holds.false) w
