-- `tearing::idle::count_off` meets its contract.
use Rattle.std.specs.Prelude.{Some}
use Rattle.store.proofs.Counted.{tallies_as}
use Rattle.tearing.specs.Idle.{ebb}
use Rattle.tearing.proofs.Ebbing.{ebbed-is}
use Rattle.tearing.proofs.idle.count_off.Goals as goal

pub returns : goal.returns
returns c = tallies_as (ebbed-is c.args.x c.args.o) (c.adjust.ensures (λ e. Some (ebb c.args.o e)) (λ _ _ p. p.1))
