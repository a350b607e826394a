use Rattle.store.specs.Counting.{less_one}
use Rattle.store.proofs.Counted.{tallies_as, unbump-is}
use Rattle.store.proofs.counting.count_out.Goals as goal

pub returns : goal.returns
returns c = tallies_as (unbump-is c.args.x c.args.o) (c.adjust.ensures (less_one c.args.o) (λ _ _ p. p.1))
