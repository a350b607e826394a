-- `asking::calls::opening` meets its contract.
use mathlib.Core.Path.{ap}
use native.Mathlib.Omega.{arith}
use Rattle.reading.specs.Given.{number_at}
use Rattle.reading.proofs.Taking.{not_last, is_last}
use Rattle.asking.proofs.Openings.{no-limit, no-places, more_fields, limit_above, places-above, opening_is}
use Rattle.asking.proofs.calls.opening.Goals as goal

pub returns-in_err-limit : goal.returns-in_err-limit
returns-in_err-limit c = rw c.from_residual.ensures (no-limit c.number_at.ensures (ap number_at c.in_err-limit.was))

pub returns-in_err-number_at : goal.returns-in_err-number_at
returns-in_err-number_at c = rw c.from_residual-in_err-number_at.ensures (
    no-places c.number_at.ensures (ap number_at c.in_ok-limit.was) c.number_at-2.ensures
    (ap number_at c.in_err-number_at.was))

pub returns-in_err-places : goal.returns-in_err-places
returns-in_err-places c =
    rw c.from_residual-in_err-places.ensures (more_fields c.number_at.ensures (ap number_at c.in_ok-limit.was)
    c.number_at-2.ensures (ap number_at c.in_ok-number_at.was) (not_last _ c.last.ensures c.in_err-places.was))

pub returns-then-limit-gt-MOST_ANNOUNCEMENTS : goal.returns-then-limit-gt-MOST_ANNOUNCEMENTS
returns-then-limit-gt-MOST_ANNOUNCEMENTS c =
    limit_above c.number_at.ensures
    (ap number_at c.in_ok-limit.was) c.number_at-2.ensures
    (ap number_at c.in_ok-number_at.was) (is_last _ c.last.ensures c.in_ok-places.was).0 c.if-limit-gt-MOST_ANNOUNCEMENTS.true

pub returns-then-places-gt-MOST_PLACES : goal.returns-then-places-gt-MOST_PLACES
returns-then-places-gt-MOST_PLACES c =
    let e = is_last _ c.last.ensures c.in_ok-places.was in
    places-above c.number_at.ensures
    (ap number_at c.in_ok-limit.was) c.number_at-2.ensures
    (ap number_at c.in_ok-number_at.was) e.0 c.if-limit-gt-MOST_ANNOUNCEMENTS.false (omega (arith, e.1, c.if-places-gt-MOST_PLACES.true))

pub returns : goal.returns
returns c =
    let e = is_last _ c.last.ensures c.in_ok-places.was in
    rw e.1 (opening_is c.number_at.ensures
    (ap number_at c.in_ok-limit.was) c.number_at-2.ensures
    (ap number_at c.in_ok-number_at.was) e.0 c.if-limit-gt-MOST_ANNOUNCEMENTS.false (omega (arith, e.1, c.if-places-gt-MOST_PLACES.false)))
