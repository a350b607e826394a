-- `apart::slots::seek` meets its contract.
use mathlib.Core.Path.{sym, ◌∙◌}
use native.Mathlib.Omega.{arith}
use borrow.Author.Tests.{ltb-true, ltb-false}
use Rattle.regions.specs.Rows.{quad_number}
use Rattle.apart.proofs.Spotting.{sought_first, sought_later}
use Rattle.apart.proofs.slots.seek.Goals as goal

pub returns-then-not-quad_less : goal.returns-then-not-quad_less
returns-then-not-quad_less c =
    sought_first (omega (arith, c.if-n-eq0.false)) c.read_head.ensures (ltb-false (quad_number c.read_head.result.hash) (quad_number c.args.h) (sym c.quad_less.ensures ∙ c.if-not-quad_less.true))

pub returns : goal.returns
returns c = sought_later (omega (arith, c.if-n-eq0.false)) c.read_head.ensures (ltb-true
    (quad_number c.read_head.result.hash) (quad_number c.args.h) (sym
    c.quad_less.ensures ∙ c.if-not-quad_less.false)) c.seek_place.ensures
