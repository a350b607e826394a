-- `listed_pairs::compare` meets its contract.
use Rattle.listed_pairs.proofs.Comparing.{no_front, no_back, wtxid_front, front_less, back_less, not_together, fit-together}
use Rattle.listed_pairs.proofs.compare.Goals as goal

pub returns-in_default-clause-compared : goal.returns-in_default-clause-compared
returns-in_default-clause-compared c = no_front c.requires.1 c.in_default.ensures.next

pub returns-then-is_wtxid-clause-compared : goal.returns-then-is_wtxid-clause-compared
returns-then-is_wtxid-clause-compared c = wtxid_front c.in-Some.ensures.next c.is_wtxid.ensures c.if-is_wtxid.true

pub returns-in_default-next_request-clause-compared : goal.returns-in_default-next_request-clause-compared
returns-in_default-next_request-clause-compared c =
    no_back (rw c.requires.0 at c.requires.2) (rw c.requires.0 at c.in_default-next_request.ensures.next)

pub returns-then-quad_less-clause-compared : goal.returns-then-quad_less-clause-compared
returns-then-quad_less-clause-compared c =
    front_less c.in-Some.ensures.next (rw c.requires.0 at c.in-Some-next_request.ensures.next) c.is_wtxid.ensures c.if-is_wtxid.false
    c.quad_less.ensures c.if-quad_less.true (rw c.in-Some.ensures.same at c.pass_below.ensures.passes)

pub returns-then-quad_less-2-clause-compared : goal.returns-then-quad_less-2-clause-compared
returns-then-quad_less-2-clause-compared c =
    back_less c.in-Some.ensures.next (rw c.requires.0 at c.in-Some-next_request.ensures.next) c.is_wtxid.ensures c.if-is_wtxid.false
    c.quad_less-2.ensures c.if-quad_less-2.true (rw (c.in-Some-next_request.ensures.same, c.requires.0) at c.skip.ensures.skips)

pub returns-then-not-side_by_side-clause-compared : goal.returns-then-not-side_by_side-clause-compared
returns-then-not-side_by_side-clause-compared c =
    not_together c.in-Some.ensures.next (rw c.requires.0 at c.in-Some-next_request.ensures.next) c.is_wtxid.ensures c.if-is_wtxid.false
    c.quad_less.ensures c.if-quad_less.false c.quad_less-2.ensures c.if-quad_less-2.false
    (rw c.in-Some.ensures.same at c.side_by_side.ensures.together) c.if-not-side_by_side.true

pub returns-clause-compared : goal.returns-clause-compared
returns-clause-compared c =
    fit-together c.in-Some.ensures.next (rw c.requires.0 at c.in-Some-next_request.ensures.next) c.is_wtxid.ensures c.if-is_wtxid.false
    c.quad_less.ensures c.if-quad_less.false c.quad_less-2.ensures c.if-quad_less-2.false
    (rw c.in-Some.ensures.same at c.side_by_side.ensures.together) c.if-not-side_by_side.false
