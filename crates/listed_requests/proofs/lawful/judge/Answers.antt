-- `listed_requests::lawful::judge` meets its contract.
use Rattle.listed_requests.proofs.Judging.{judged_line, judged_many, judged-by}
use Rattle.listed_requests.proofs.lawful.judge.Goals as goal

pub returns-then-not-line_fits-clause-judged : goal.returns-then-not-line_fits-clause-judged
returns-then-not-line_fits-clause-judged c = judged_line c.line_fits.ensures c.if-not-line_fits.true

pub returns-in_err-count-clause-judged : goal.returns-in_err-count-clause-judged
returns-in_err-count-clause-judged c = rw c.from_residual.ensures (judged_many c.line_fits.ensures c.in_err-count.ensures.gathers)

pub returns-clause-judged : goal.returns-clause-judged
returns-clause-judged c =
    judged-by c.line_fits.ensures c.in_ok-count.ensures.gathers c.if-not-line_fits.false c.all_distinct-once.ensures c.owner_stands-owner.ensures c.then_some.ensures
