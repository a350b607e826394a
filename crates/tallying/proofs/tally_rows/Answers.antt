-- `tallying::tally_rows` meets its contract.
use Rattle.tallying.proofs.Filling.{filled-shown, tallied_rows}
use Rattle.tallying.proofs.tally_rows.Goals as goal

pub settle_conns-requires : goal.settle_conns-requires
settle_conns-requires c = filled-shown c.requires.0 c.fill.ensures

pub returns : goal.returns
returns c = tallied_rows c.fill.ensures c.settle_conns.ensures
