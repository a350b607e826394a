-- `owners::with_row` meets its contract.
use mathlib.Core.Path.{sym, ◌∙◌}
use native.Mathlib.Omega.{arith}
use borrow.Author.Tests.{ltb-true, ltb-false}
use Rattle.regions.specs.Rows.{quad_number}
use Rattle.owners.proofs.Rows.{hash_is}
use Rattle.owners.proofs.Entries.{first_is, row_below, row_at}
use Rattle.owners.proofs.with_row.Goals as goal

pub returns-then-quad_less : goal.returns-then-quad_less
returns-then-quad_less c = λ o s. row_below _ c.args.r _ o
    (omega (
      arith,
      hash_is c.args.r,
      ltb-true (quad_number c.args.r.hash) (quad_number c.args.h)
          (sym c.quad_less.ensures ∙ c.if-quad_less.true),
    )) s

pub returns : goal.returns
returns c = λ o s. row_at _ c.args.r _ o
    (omega (
      arith,
      c.requires,
      hash_is c.args.r,
      ltb-false
          (quad_number c.args.r.hash) (quad_number c.args.h) (sym c.quad_less.ensures
          ∙ c.if-quad_less.false),
    )) (rw c.or.ensures (first_is c.args.v c.named_by.result o _ s c.named_by.ensures))
