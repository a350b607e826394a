-- `inventory::keys::read_front` meets its contract.
use Rattle.inventory.proofs.Listing.{keys-front}
use Rattle.inventory.proofs.keys.read_front.Goals as goal

pub returns : goal.returns
returns c = keys-front c.requires.0 c.read_front.ensures
