-- `parenting::displacing::defer_with` meets its contract.
use mathlib.Core.Path.{refl, ap, ◌∙◌}
use mathlib.Core.Bool.{false}
use native.Mathlib.Omega.{arith}
use Rattle.announcing.proofs.Lent.{peer_of}
use Rattle.gathering.specs.Counted.{then_wait}
use Rattle.parenting.proofs.Waiting.{parent_low}
use Rattle.parenting.proofs.NextParent.{defers_known, defers_in, is_nothing, not_nothing}
use Rattle.parenting.proofs.displacing.defer_with.Goals.{else-eq-via-then-eq+else-is_known, else-eq-via-else-eq}
use Rattle.parenting.proofs.displacing.defer_with.Goals as goal

pub returns-then-is_known : goal.returns-then-is_known
returns-then-is_known c =
    let nothing = is_nothing c.defer-fare.result c.eq.ensures c.if-eq.true in (
      defers_known (peer_of c.args.p.connection (omega arith)) (omega arith) (omega arith) (parent_low c.args.p c.well_formed.1.1.1.0)
          c.if-q-eq0.false c.offered.ensures c.defer-fare.ensures.0 nothing,
      c.defer-fare.ensures.1 ∙ ap (then_wait c.args.new.now.count) nothing,
    )

pub returns : goal.returns
returns c =
    let peer = peer_of c.args.p.connection (omega arith) in
    let low = parent_low c.args.p c.well_formed.1.1.1.0 in
    let waiting = c.defer-fare.ensures.1 in (
      elim c.else-eq.branch [
        | else-eq-via-then-eq+else-is_known w ↦ defers_in peer (omega arith) (omega arith) low c.if-q-eq0.false c.offered.ensures c.defer-fare.ensures.0 waiting
            (λ _. w.is_known.ensures) (λ _. w.if-is_known.false)
        | else-eq-via-else-eq w ↦ defers_in peer (omega arith) (omega arith) low c.if-q-eq0.false c.offered.ensures c.defer-fare.ensures.0 {u = false} waiting
            (λ e. absurd (not_nothing c.defer-fare.result c.eq.ensures w.if-eq.false e)) (λ _. refl)
      ],
      waiting,
    )
