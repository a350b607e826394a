use Rattle.std.specs.Prelude.{Some}
use Rattle.store.specs.Counting.{reowned}
use Rattle.store.proofs.Counted.{tallies_as, retally-is}
use Rattle.store.proofs.counting.recount.Goals as goal

pub returns : goal.returns
returns c = tallies_as (retally-is c.args.x c.args.o c.args.p) (c.adjust.ensures (λ e. Some (reowned c.args.o c.args.p e)) (λ _ _ p. p.1))
