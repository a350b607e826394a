-- `owners::along` meets its contract.
use mathlib.Core.Path.{sym, ap, ◌∙◌}
use Rattle.machine.specs.Table.{one}
use Rattle.machine.proofs.Owning.{one_most}
use native.Mathlib.Omega.{arith}
use borrow.Author.Tests.{ltb-true, ltb-false}
use Rattle.regions.specs.Rows.{quad_number}
use Rattle.claiming.proofs.Fields.{one_byte}
use Rattle.owners.proofs.Rows.{hash_is}
use Rattle.owners.proofs.Stretches.{going_done, going_past, going_more}
use Rattle.owners.proofs.along.Goals as goal

pub returns-then-quad_less : goal.returns-then-quad_less
returns-then-quad_less c = going_past c.loop-i.invariant c.loop-i-test.true
    c.requires.1 c.row_at-r.ensures
    (omega (
      arith,
      hash_is c.row_at-r.result,
      ltb-true (quad_number c.args.h)
          (quad_number c.row_at-r.result.hash) (sym c.quad_less.ensures ∙ c.if-quad_less.true),
    ))

pub loop-i-preserved : goal.loop-i-preserved
loop-i-preserved c = going_more c.loop-i.invariant c.loop-i-test.true
    c.requires.1 c.row_at-r.ensures
    (omega (
      arith,
      hash_is c.row_at-r.result,
      ltb-false
          (quad_number c.args.h) (quad_number c.row_at-r.result.hash)
          (sym c.quad_less.ensures ∙ c.if-quad_less.false),
    ))
    c.with_row-owner.ensures (omega (arith, c.from-keys.ensures ∙ one_byte c.ends_key.result, one_most c.ends_key.result))
    (λ f w. c.from-keys.ensures ∙ one_byte c.ends_key.result ∙ ap one (c.ends_key.ensures f w))

pub returns : goal.returns
returns c = going_done c.loop-i.invariant (omega (arith, c.loop-i-test.false))
