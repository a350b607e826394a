-- `planning::expiring::next_due` meets its contract.
use Rattle.announcing.proofs.Lent.{key_low}
use Rattle.planning.proofs.NextDue.{next_ends, next_goes}
use Rattle.planning.proofs.expiring.next_due.Goals as goal

pub returns-in_err-r : goal.returns-in_err-r
returns-in_err-r c = rw c.from_residual.ensures (next_ends c.args.low c.args.clock c.after_cursor.ensures.1 c.seek_due.ensures c.in_err-r.was)

pub returns : goal.returns
returns c =
    let k = c.key_of.result in
    next_goes c.args.low c.args.clock c.after_cursor.ensures.1 c.seek_due.ensures c.in_ok-r.r c.in_ok-r.was k c.key_of.ensures (key_low k c.key_of.type_inv) c.requires
