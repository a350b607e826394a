-- `listed_requests::forms::next_candidate` meets its contract.
use mathlib.Core.Path.{refl, sym, ◌∙◌}
use Rattle.listed_requests.proofs.Lines.{keyed_next, candidate_next, other_next, none_next}
use Rattle.listed_requests.proofs.forms.next_candidate.Goals as goal

pub returns-then-meets_request-clause-next : goal.returns-then-meets_request-clause-next
returns-then-meets_request-clause-next c = keyed_next (sym c.meets_request.ensures ∙ c.if-meets_request.true)

pub returns-in_err-line-clause-next : goal.returns-in_err-line-clause-next
returns-in_err-line-clause-next c = rw c.from_residual.ensures (none_next (c.in_err-line.ensures.none refl).0)

pub returns-in_default-clause-next : goal.returns-in_default-clause-next
returns-in_default-clause-next c = other_next c.in_ok-line.ensures.line c.in_default.not-Candidate

pub returns-clause-next : goal.returns-clause-next
returns-clause-next c = candidate_next c.in_ok-line.ensures.line c.in-Candidate.is
