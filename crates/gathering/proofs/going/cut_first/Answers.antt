-- `gathering::going::cut_first` meets its contract.
use Rattle.gathering.proofs.Departing.{gone_first}
use Rattle.gathering.proofs.going.cut_first.Goals as goal

pub returns : goal.returns
returns c = gone_first c.requires.2 c.get-y.ensures c.key_of.ensures c.cut.ensures
