-- `gathering::beside::set_aside_at` meets its contract.
use Rattle.gathering.proofs.Faring.{set_not, set_in}
use Rattle.announcing.proofs.Lent.{key_low}
use Rattle.gathering.proofs.beside.set_aside_at.Goals as goal

pub returns-in-Err : goal.returns-in-Err
returns-in-Err c = set_not (rw (c.new.ensures.0, c.new.ensures.1) at c.in-Err.ensures.0) c.in-Err.ensures.1

pub returns-in-Ok : goal.returns-in-Ok
returns-in-Ok c =
    let k = c.args.k in
    set_in (key_low k c.well_formed.1.1.1.0) (rw (c.new.ensures.0, c.new.ensures.1) at c.in-Ok.ensures.0) c.waiting_row.ensures c.put_in.ensures
