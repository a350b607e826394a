use Rattle.sweeping.proofs.Known.{after_none, after_some, begins_none, begins_some}
use Rattle.sweeping.proofs.batch.after_cursor.Goals as goal

pub returns-in_default : goal.returns-in_default
returns-in_default c = rw c.in_default.is (after_none, begins_none c.args.s.now)

pub returns : goal.returns
returns c = rw c.in-Some.is (after_some c.in-Some.k c.from.ensures c.seek_row.ensures, begins_some c.from.ensures c.seek_row.ensures)
