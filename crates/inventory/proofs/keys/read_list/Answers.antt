-- `inventory::keys::read_list` meets its contract.
use Rattle.inventory.proofs.Listing.{keys-given}
use Rattle.inventory.proofs.keys.read_list.Goals as goal

pub returns : goal.returns
returns c = keys-given c.requires.0 c.read_list.ensures
