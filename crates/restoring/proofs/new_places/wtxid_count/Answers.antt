-- `restoring::new_places::wtxid_count` meets its contract.
use borrow.Author.Rules.{rules}
use Rattle.restoring.proofs.LineFields.{wtxids-are}
use Rattle.restoring.proofs.new_places.wtxid_count.Goals as goal

pub returns : goal.returns
returns c = wtxids-are c.args.p (λ x a. search rules) c.map_or.ensures
