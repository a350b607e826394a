-- `listed_lines::parts::owner_there` meets its contract.
use mathlib.Core.Path.{ap}
use Rattle.machine.specs.Fields.{number_of}
use Rattle.reading.specs.Given.{number_at}
use Rattle.listed_lines.proofs.Anywhere.{number_took}
use Rattle.listed_lines.proofs.Forms.{no-connection, no-deadline, owner-is}
use Rattle.listed_lines.proofs.parts.owner_there.Goals as goal

pub returns-in_err-connection : goal.returns-in_err-connection
returns-in_err-connection c = rw c.from_residual.ensures (no-connection (number_took number_of c.number_at.ensures) (ap number_at c.in_err-connection.was))

pub returns-in_err-deadline : goal.returns-in_err-deadline
returns-in_err-deadline c =
    rw c.from_residual-in_err-deadline.ensures
    (no-deadline (number_took number_of c.number_at.ensures) (ap number_at c.in_ok-connection.was)
    (number_took number_of c.number_at-2.ensures) (ap number_at c.in_err-deadline.was))

pub returns : goal.returns
returns c =
    owner-is (number_took number_of c.number_at.ensures) (ap number_at c.in_ok-connection.was)
    (number_took number_of c.number_at-2.ensures) (ap number_at c.in_ok-deadline.was)
