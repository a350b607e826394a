-- `reading::hashes::read_list` meets its contract.
use Rattle.reading.proofs.Behind.{hashes-given}
use Rattle.reading.proofs.hashes.read_list.Goals as goal

pub returns : goal.returns
returns c = hashes-given c.requires.0 c.read_list.ensures
