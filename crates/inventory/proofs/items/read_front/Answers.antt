-- `inventory::items::read_front` meets its contract.
use Rattle.inventory.proofs.Listing.{items-front}
use Rattle.inventory.proofs.items.read_front.Goals as goal

pub returns : goal.returns
returns c = items-front c.requires.0 c.read_front.ensures
