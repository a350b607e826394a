use Rattle.store.proofs.Counted.{tallies_as}
use Rattle.cutting.specs.Cuts.{less}
use Rattle.cutting.proofs.Lessening.{lessen-is}
use Rattle.cutting.proofs.count_less.Goals as goal

pub returns : goal.returns
returns c = tallies_as (lessen-is c.args.x c.args.d) (c.adjust.ensures (less c.args.d) (λ _ _ p. p.1))
