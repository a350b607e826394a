-- `postponing::among::announce_among` meets its contract.
use mathlib.Core.Path.{sym, ◌∙◌}
use native.Mathlib.Omega.{arith}
use Rattle.announcing.proofs.Lent.{peer_of}
use Rattle.parenting.proofs.Waiting.{parent_low}
use Rattle.postponing.proofs.Considering.{among_adopts, among_waits, among_rest, is_kept}
use Rattle.postponing.proofs.among.announce_among.Goals as goal

pub returns-then-is_candidate_in : goal.returns-then-is_candidate_in
returns-then-is_candidate_in c =
    let p = c.args.p in
    among_adopts (parent_low p c.well_formed.1.1.1.1.0) (rw c.if-not-open_at.false at c.open_at.ensures) (c.goes_at.ensures c.if-goes_at.false)
    (peer_of p.connection (omega arith)) (omega arith) (omega arith) (λ st g w. sym (c.is_candidate_in.ensures st g w) ∙ c.if-is_candidate_in.true) c.announce_parent.ensures

pub returns-then-eq : goal.returns-then-eq
returns-then-eq c =
    let p = c.args.p in
    let e = is_kept c.consider-reply.result c.eq.ensures c.if-eq.true in
    rw e (among_waits (parent_low p c.well_formed.1.1.1.1.0) (rw c.if-not-open_at.false at c.open_at.ensures) (c.goes_at.ensures c.if-goes_at.false)
    (λ st g w. sym (c.is_candidate_in.ensures st g w) ∙ c.if-is_candidate_in.false) (peer_of p.connection (omega arith)) (omega arith) (omega arith) (rw e at c.consider-reply.ensures)
    c.from-k.ensures c.offered.ensures c.set_among.ensures.0 c.set_among.ensures.1)

pub returns-else-eq : goal.returns-else-eq
returns-else-eq c =
    let p = c.args.p in
    among_rest (parent_low p c.well_formed.1.1.1.1.0) (rw c.if-not-open_at.false at c.open_at.ensures) (c.goes_at.ensures c.if-goes_at.false)
    (λ st g w. sym (c.is_candidate_in.ensures st g w) ∙ c.if-is_candidate_in.false) c.consider-reply.result c.eq.ensures c.if-eq.false c.consider-reply.ensures
