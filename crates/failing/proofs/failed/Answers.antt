use mathlib.Core.Path.{sym, ◌∙◌}
use Rattle.ident.specs.Words.{key_num}
use Rattle.failing.proofs.Leaving.{failed-refused, failed_done}
use Rattle.failing.proofs.failed.Goals as goal

pub returns-then-not-releasable : goal.returns-then-not-releasable
returns-then-not-releasable c = failed-refused (key_num c.args.k) c.args.n c.args.clock
    (λ st s w. sym (c.releasable.ensures st s w) ∙ c.if-not-releasable.true)

pub returns : goal.returns
returns c = failed_done (key_num c.args.k) c.args.n
    c.args.clock (λ st s w. sym (c.releasable.ensures st s w) ∙
    c.if-not-releasable.false) c.leave_both.ensures
