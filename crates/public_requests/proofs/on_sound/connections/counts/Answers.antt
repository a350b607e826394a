-- `public_requests::on_sound::connections::counts` meets its contract: the connection's figures, which the store keeps.
use Rattle.outcome.proofs.Exits.{hands-on}
use Rattle.public_requests.proofs.Counting.{counts-refused, counts_told}
use Rattle.public_requests.proofs.on_sound.connections.counts.Goals as goal

pub returns-in_err-of_connection : goal.returns-in_err-of_connection
returns-in_err-of_connection c =
    rw (hands-on _ c.from_residual.ensures.1) (counts-refused _ c.requires _ c.in_err-of_connection.ensures.test)

pub returns : goal.returns
returns c =
    counts_told _ c.requires c.in_ok-of_connection.ensures.test
    c.need_of-n.ensures c.figures-f.ensures
