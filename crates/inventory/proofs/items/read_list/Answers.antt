-- `inventory::items::read_list` meets its contract.
use Rattle.inventory.proofs.Listing.{items-given}
use Rattle.inventory.proofs.items.read_list.Goals as goal

pub returns : goal.returns
returns c = items-given c.requires.0 c.read_list.ensures
