-- `listed_requests::forms::next_request` meets its contract.
use Rattle.listed_requests.proofs.Lines.{request_next, no-request}
use Rattle.listed_requests.proofs.forms.next_request.Goals as goal

pub returns-in_default-clause-next : goal.returns-in_default-clause-next
returns-in_default-clause-next c = no-request c.in_ok-line.ensures.line c.in_default.not-Request

pub returns-clause-next : goal.returns-clause-next
returns-clause-next c = request_next c.in_ok-line.ensures.line c.in-Request.is
