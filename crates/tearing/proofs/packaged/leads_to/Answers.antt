-- `tearing::packaged::leads_to` meets its contract.
use mathlib.Core.Path.{sym, ◌∙◌}
use native.Mathlib.Omega.{arith}
use borrow.Author.Tests.{ltb-true, ltb-false, not-true}
use Rattle.regions.specs.Rows.{quad_number}
use Rattle.store.proofs.Frame.{sizes}
use Rattle.tearing.proofs.PackageSpots.{stood}
use Rattle.tearing.proofs.packaged.leads_to.Goals as goal
use Rattle.tearing.proofs.packaged.leads_to.Goals.{then-known-eq0, else-known-eq0}

pub returns-then-known-held_places : goal.returns-then-known-held_places
returns-then-known-held_places c = λ e f w k so.
    stood k
    (λ l. elim c.if-known-eq0.branch [
      | then-known-eq0 v ↦ absurd (omega (arith, v.if-known-eq0.true, l))
      | else-known-eq0 v ↦ ltb-true (quad_number c.args.known.before) (quad_number c.args.q) (sym v.quad_less-above.ensures ∙ sym v.above-is ∙ c.if-above.true)
    ])
    (λ l. absurd (omega (arith, sizes w, l, c.if-known-held_places.true, c.held_places.ensures.word))) so

pub returns-else-known-held_places : goal.returns-else-known-held_places
returns-else-known-held_places c = λ e f w k so.
    stood k
    (λ l. elim c.if-known-eq0.branch [
      | then-known-eq0 v ↦ absurd (omega (arith, v.if-known-eq0.true, l))
      | else-known-eq0 v ↦ ltb-true (quad_number c.args.known.before) (quad_number c.args.q) (sym v.quad_less-above.ensures ∙ sym v.above-is ∙ c.if-above.true)
    ])
    (λ l. ltb-false (quad_number c.args.known.hash) (quad_number c.args.q) (sym c.quad_less.ensures ∙ not-true c.quad_less.result e)) so
