-- `listed_requests::each::advance` meets its contract.
use mathlib.Core.Path.{refl}
use native.Mathlib.Omega.{arith}
use Rattle.listed_requests.proofs.Advancing.{no-request, stops-order, stops_one, stops_held, stops-taken, goes_on_lem}
use Rattle.listed_requests.proofs.each.advance.Goals as goal

pub returns-in_err-r-clause-step : goal.returns-in_err-r-clause-step
returns-in_err-r-clause-step c = let a = c.args in rw c.from_residual.ensures (no-request a.limit a.places a.p c.in_err-r.ensures.next c.requires.0)

pub returns-then-not-rises-clause-step : goal.returns-then-not-rises-clause-step
returns-then-not-rises-clause-step c =
    let a = c.args in
    stops-order a.limit a.places a.p c.in_ok-r.ensures.next c.rises.ensures c.if-not-rises.true

pub returns-in_err-count-clause-step : goal.returns-in_err-count-clause-step
returns-in_err-count-clause-step c =
    let a = c.args in
    rw c.from_residual-in_err-count.ensures (stops_one a.limit a.places a.p c.in_ok-r.ensures.next (rw c.in_ok-r.ensures.same at c.in_err-count.ensures.judged))

pub returns-then-limit-held-clause-step : goal.returns-then-limit-held-clause-step
returns-then-limit-held-clause-step c =
    let a = c.args in
    stops_held a.limit a.places a.p c.in_ok-r.ensures.next (rw c.in_ok-r.ensures.same at c.in_ok-count.ensures.judged) refl c.if-limit-held.true

pub returns-then-places-taken-clause-step : goal.returns-then-places-taken-clause-step
returns-then-places-taken-clause-step c =
    let a = c.args in
    stops-taken a.limit a.places a.p c.in_ok-r.ensures.next (rw c.in_ok-r.ensures.same at c.in_ok-count.ensures.judged) c.place_of.ensures refl c.if-places-taken.true

pub returns-clause-step : goal.returns-clause-step
returns-clause-step c =
    let a = c.args in
    goes_on_lem a.limit a.places a.p c.in_ok-r.ensures.next (rw c.in_ok-r.ensures.same at c.in_ok-count.ensures.judged) c.place_of.ensures refl
    c.rises.ensures c.if-not-rises.false
    refl (omega (arith, c.if-limit-held.false)) (omega (arith, c.if-places-taken.false))
