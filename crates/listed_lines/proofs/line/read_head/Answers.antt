-- `listed_lines::line::read_head` meets its contract.
use mathlib.Core.Path.{ap}
use Rattle.machine.specs.Fields.{number_of}
use Rattle.reading.specs.Given.{number_at}
use Rattle.listed_lines.specs.Given.{maybe_number_at, maybe_key_at}
use Rattle.listed_lines.proofs.Anywhere.{number_took}
use Rattle.reading.proofs.Taking.{not_last, is_last}
use Rattle.listed_lines.proofs.Forms.{head_1, head_2, head_3, head_4, head_5, head_more, head_is}
use Rattle.listed_lines.proofs.line.read_head.Goals as goal

pub returns-in_err-limit : goal.returns-in_err-limit
returns-in_err-limit c =
    rw c.from_residual.ensures
    (head_1 c.first_number.ensures (ap number_at c.in_err-limit.was))

pub returns-in_err-places : goal.returns-in_err-places
returns-in_err-places c =
    rw c.from_residual-in_err-places.ensures
    (head_2 c.first_number.ensures (ap number_at c.in_ok-limit.was)
    (number_took number_of c.number_at.ensures) (ap number_at c.in_err-places.was))

pub returns-in_err-poll : goal.returns-in_err-poll
returns-in_err-poll c =
    rw c.from_residual-in_err-poll.ensures
    (head_3 c.first_number.ensures (ap number_at c.in_ok-limit.was)
    (number_took number_of c.number_at.ensures) (ap number_at c.in_ok-places.was)
    c.maybe_number_at.ensures (ap maybe_number_at c.in_err-poll.was))

pub returns-in_err-known : goal.returns-in_err-known
returns-in_err-known c =
    rw c.from_residual-in_err-known.ensures
    (head_4 c.first_number.ensures (ap number_at c.in_ok-limit.was)
    (number_took number_of c.number_at.ensures) (ap number_at c.in_ok-places.was)
    c.maybe_number_at.ensures (ap maybe_number_at c.in_ok-poll.was)
    c.maybe_key_at.ensures (ap maybe_key_at c.in_err-known.was))

pub returns-in_err-maybe_key_at : goal.returns-in_err-maybe_key_at
returns-in_err-maybe_key_at c =
    rw c.from_residual-in_err-maybe_key_at.ensures
    (head_5 c.first_number.ensures (ap number_at c.in_ok-limit.was)
    (number_took number_of c.number_at.ensures) (ap number_at c.in_ok-places.was)
    c.maybe_number_at.ensures (ap maybe_number_at c.in_ok-poll.was)
    c.maybe_key_at.ensures (ap maybe_key_at c.in_ok-known.was)
    c.maybe_key_at-2.ensures (ap maybe_key_at c.in_err-maybe_key_at.was))

pub returns-in_err-ready : goal.returns-in_err-ready
returns-in_err-ready c =
    rw c.from_residual-in_err-ready.ensures
    (head_more c.first_number.ensures (ap number_at c.in_ok-limit.was)
    (number_took number_of c.number_at.ensures) (ap number_at c.in_ok-places.was)
    c.maybe_number_at.ensures (ap maybe_number_at c.in_ok-poll.was)
    c.maybe_key_at.ensures (ap maybe_key_at c.in_ok-known.was)
    c.maybe_key_at-2.ensures (ap maybe_key_at c.in_ok-maybe_key_at.was)
    (not_last _ c.last.ensures c.in_err-ready.was))

pub returns : goal.returns
returns c =
    let e = is_last _ c.last.ensures c.in_ok-ready.was in
    rw e.1
    (head_is c.first_number.ensures (ap number_at c.in_ok-limit.was)
    (number_took number_of c.number_at.ensures) (ap number_at c.in_ok-places.was)
    c.maybe_number_at.ensures (ap maybe_number_at c.in_ok-poll.was)
    c.maybe_key_at.ensures (ap maybe_key_at c.in_ok-known.was)
    c.maybe_key_at-2.ensures (ap maybe_key_at c.in_ok-maybe_key_at.was)
    e.0)
