-- `listed_lines::line::read_candidate` meets its contract.
use mathlib.Core.Path.{ap}
use Rattle.machine.specs.Fields.{number_of}
use Rattle.reading.specs.Given.{number_at, bool_at, item_at}
use Rattle.listed_lines.proofs.Anywhere.{number_took, bool_took, item_took}
use Rattle.reading.proofs.Taking.{not_last, is_last}
use Rattle.listed_lines.proofs.Forms.{candidate_1, candidate_2, candidate_3, candidate_4, candidate_5, candidate_more, candidate_is}
use Rattle.listed_lines.proofs.line.read_candidate.Goals as goal

pub returns-in_err-connection : goal.returns-in_err-connection
returns-in_err-connection c =
    rw c.from_residual.ensures
    (candidate_1 c.first_number.ensures (ap number_at c.in_err-connection.was))

pub returns-in_err-item : goal.returns-in_err-item
returns-in_err-item c =
    rw c.from_residual-in_err-item.ensures
    (candidate_2 c.first_number.ensures (ap number_at c.in_ok-connection.was)
    (item_took c.item_at.ensures) (ap item_at c.in_err-item.was))

pub returns-in_err-ready : goal.returns-in_err-ready
returns-in_err-ready c =
    rw c.from_residual-in_err-ready.ensures
    (candidate_3 c.first_number.ensures (ap number_at c.in_ok-connection.was)
    (item_took c.item_at.ensures) (ap item_at c.in_ok-item.was)
    (number_took number_of c.number_at.ensures) (ap number_at c.in_err-ready.was))

pub returns-in_err-preferred : goal.returns-in_err-preferred
returns-in_err-preferred c =
    rw c.from_residual-in_err-preferred.ensures
    (candidate_4 c.first_number.ensures (ap number_at c.in_ok-connection.was)
    (item_took c.item_at.ensures) (ap item_at c.in_ok-item.was)
    (number_took number_of c.number_at.ensures) (ap number_at c.in_ok-ready.was)
    (bool_took c.bool_at.ensures) (ap bool_at c.in_err-preferred.was))

pub returns-in_err-number_at : goal.returns-in_err-number_at
returns-in_err-number_at c =
    rw c.from_residual-in_err-number_at.ensures
    (candidate_5 c.first_number.ensures (ap number_at c.in_ok-connection.was)
    (item_took c.item_at.ensures) (ap item_at c.in_ok-item.was)
    (number_took number_of c.number_at.ensures) (ap number_at c.in_ok-ready.was)
    (bool_took c.bool_at.ensures) (ap bool_at c.in_ok-preferred.was)
    (number_took number_of c.number_at-2.ensures) (ap number_at c.in_err-number_at.was))

pub returns-in_err-priority : goal.returns-in_err-priority
returns-in_err-priority c =
    rw c.from_residual-in_err-priority.ensures
    (candidate_more c.first_number.ensures (ap number_at c.in_ok-connection.was)
    (item_took c.item_at.ensures) (ap item_at c.in_ok-item.was)
    (number_took number_of c.number_at.ensures) (ap number_at c.in_ok-ready.was)
    (bool_took c.bool_at.ensures) (ap bool_at c.in_ok-preferred.was)
    (number_took number_of c.number_at-2.ensures) (ap number_at c.in_ok-number_at.was)
    (not_last _ c.last.ensures c.in_err-priority.was))

pub returns : goal.returns
returns c =
    let e = is_last _ c.last.ensures c.in_ok-priority.was in
    rw e.1
    (candidate_is c.first_number.ensures (ap number_at c.in_ok-connection.was)
    (item_took c.item_at.ensures) (ap item_at c.in_ok-item.was)
    (number_took number_of c.number_at.ensures) (ap number_at c.in_ok-ready.was)
    (bool_took c.bool_at.ensures) (ap bool_at c.in_ok-preferred.was)
    (number_took number_of c.number_at-2.ensures) (ap number_at c.in_ok-number_at.was)
    e.0)
