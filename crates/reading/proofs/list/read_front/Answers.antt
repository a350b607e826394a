-- `reading::list::read_front` meets its contract.
use mathlib.Core.Path.{refl, ap}
use native.Mathlib.Nat.{mul-le-mul_left}
use native.Mathlib.Omega.{arith}
use Rattle.reading.specs.Given.{number_at}
use Rattle.reading.proofs.Elements.{no-count, too_long, no-list, more_fields, list_is}
use Rattle.reading.proofs.list.read_front.Goals as goal

pub returns-in_err-count : goal.returns-in_err-count
returns-in_err-count g c = rw c.from_residual.ensures (record { is = λ w t m. no-count g.E.Element.reads c.number_at.ensures (ap number_at c.in_err-count.was) })

pub returns-then-most-count : goal.returns-then-most-count
returns-then-most-count g c =
    record { is = λ w t m. too_long g.E.Element.reads c.number_at.ensures (ap number_at c.in_ok-count.was) t (omega (arith, m, mul-le-mul_left w c.if-most-count.true)) }

pub returns-in_err-end : goal.returns-in_err-end
returns-in_err-end g c =
    rw c.from_residual-in_err-end.ensures (record { is = λ w t m. no-list g.E.Element.reads c.number_at.ensures (ap number_at c.in_ok-count.was) refl c.read_all.ensures c.in_err-end.was })

pub returns-then-end-line : goal.returns-then-end-line
returns-then-end-line g c =
    record { is = λ w t m. more_fields g.E.Element.reads c.number_at.ensures (ap number_at c.in_ok-count.was) refl c.read_all.ensures c.in_ok-end.was c.if-end-line.true }

pub returns : goal.returns
returns g c = record { is = (omega arith, list_is g.E.Element.reads c.number_at.ensures (ap number_at c.in_ok-count.was) refl c.read_all.ensures c.in_ok-end.was c.if-end-line.false) }
