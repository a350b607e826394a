use mathlib.Core.Path.{refl, sym, ap, ◌∙◌}
use mathlib.Core.Bool.{not}
use Rattle.failing.proofs.Releasing.{owner-is, enqueued-is}
use Rattle.failing.proofs.releasable.Goals as goal

pub returns-then-is_owned_by : goal.returns-then-is_owned_by
returns-then-is_owned_by c = λ st s w.
    let x = c.request_at-r.ensures.is st s w in
    rw (sym (owner-is x c.args.n c.is_owned_by.ensures) ∙ c.if-is_owned_by.true) (c.ne.ensures ∙ ap not (enqueued-is x refl))

pub returns-else-is_owned_by : goal.returns-else-is_owned_by
returns-else-is_owned_by c = λ st s w.
    let x = c.request_at-r.ensures.is st s w in
    rw (sym (owner-is x c.args.n c.is_owned_by.ensures) ∙ c.if-is_owned_by.false) c.if-is_owned_by.false
