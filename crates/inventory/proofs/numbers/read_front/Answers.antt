-- `inventory::numbers::read_front` meets its contract.
use Rattle.inventory.proofs.Listing.{numbers-front}
use Rattle.inventory.proofs.numbers.read_front.Goals as goal

pub returns : goal.returns
returns c = numbers-front c.requires.0 c.read_front.ensures
