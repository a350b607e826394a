use Rattle.sweeping.proofs.Known.{after-known}
use Rattle.sweeping.proofs.batch.after_known.Goals as goal

pub returns : goal.returns
returns c = after-known c.cursor_at-c.ensures c.after_cursor.ensures.0
