use mathlib.Core.Path.{sym, ◌∙◌}
use Rattle.ident.specs.Words.{key_num}
use Rattle.failing.proofs.Leaving.{unclaimed, unclaim-refused}
use Rattle.failing.proofs.unclaim.Goals as goal

pub returns-then-releasable : goal.returns-then-releasable
returns-then-releasable c = λ st s w u.
    let e = sym (c.releasable.ensures st s w) ∙ c.if-releasable.true in
    unclaimed st s (key_num c.args.k) c.args.n e w
    c.clear.ensures

pub returns-else-releasable : goal.returns-else-releasable
returns-else-releasable c = λ st s w u. unclaim-refused st (key_num c.args.k) c.args.n
    (sym (c.releasable.ensures st s w) ∙ c.if-releasable.false) w
