use Rattle.ident.specs.Words.{maybe_key_num}
use Rattle.cursors.proofs.InState.{known_saved}
use Rattle.cursors.proofs.move_known.Goals as goal

pub returns : goal.returns
returns c s w = known_saved c.load-c.result _ c.load-c.ensures.state c.save.ensures.state s w (maybe_key_num c.args.last) c.set_known.ensures
