-- `cursors::move_ready` meets its contract.
use Rattle.cursors.proofs.InState.{ready_moved}
use Rattle.cursors.proofs.move_ready.Goals as goal

pub returns : goal.returns
returns c = ready_moved c.args.last c.set_cursor.auto.s c.set_cursor.ensures
