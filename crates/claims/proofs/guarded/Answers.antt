use mathlib.Core.Path.{sym, ◌∙◌}
use Rattle.claims.proofs.Known.{guarded-enqueued, guarded_in_time, guarded_not}
use Rattle.claims.proofs.guarded.Goals as goal

pub returns-then-eq : goal.returns-then-eq
returns-then-eq c = λ st s w. c.if-eq.true ∙ guarded-enqueued (c.request_at-r.ensures.is st s w) c.args.clock (sym c.if-eq.true ∙ c.eq.ensures)

pub returns-then-is_some : goal.returns-then-is_some
returns-then-is_some c = λ st s w.
    guarded_in_time (c.request_at-r.ensures.is st s w) c.args.clock (sym c.if-eq.false ∙ c.eq.ensures) (sym c.is_some.ensures ∙ c.if-is_some.true) c.is_alive.ensures

pub returns-else-is_some : goal.returns-else-is_some
returns-else-is_some c = λ st s w.
    c.if-is_some.false ∙ guarded_not (c.request_at-r.ensures.is st s w) c.args.clock (sym c.if-eq.false ∙ c.eq.ensures) (sym c.is_some.ensures ∙ c.if-is_some.false)
