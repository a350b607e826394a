-- `reading::hashes::read_front` meets its contract.
use Rattle.reading.proofs.Behind.{hashes-front}
use Rattle.reading.proofs.hashes.read_front.Goals as goal

pub returns : goal.returns
returns c = hashes-front c.requires.0 c.read_front.ensures
