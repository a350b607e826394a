-- `restoring::new_places::combined_of` meets its contract.
use borrow.Author.Rules.{rules}
use Rattle.restoring.proofs.LineFields.{combined-is}
use Rattle.restoring.proofs.new_places.combined_of.Goals as goal

pub returns : goal.returns
returns c = combined-is c.args.p (λ x a. search rules) c.map_or.ensures
