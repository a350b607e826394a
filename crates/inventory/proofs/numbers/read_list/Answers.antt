-- `inventory::numbers::read_list` meets its contract.
use Rattle.inventory.proofs.Listing.{numbers-given}
use Rattle.inventory.proofs.numbers.read_list.Goals as goal

pub returns : goal.returns
returns c = numbers-given c.requires.0 c.read_list.ensures
