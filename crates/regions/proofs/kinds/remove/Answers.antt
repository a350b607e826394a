-- `regions::kinds::remove` meets its contract.
use Rattle.regions.proofs.Records.{moved_down}
use Rattle.regions.proofs.kinds.remove.Goals as goal

pub returns : goal.returns
returns g c =
    let a = c.args in
    moved_down g.R.Record.laws a.s.now c.down_by.new.s a.i a.n c.WORDS-size.ensures c.requires.0 c.requires.1 c.down_by.auto.s c.down_by.ensures c.clear.ensures
