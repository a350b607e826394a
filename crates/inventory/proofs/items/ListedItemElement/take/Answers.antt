-- `inventory::items::ListedItem::take` meets its contract.
use mathlib.Core.Path.{ap}
use Rattle.reading.specs.Given.{item_at}
use Rattle.reading.proofs.Elements.{taken_there}
use Rattle.inventory.proofs.Plain.{plain-item}
use Rattle.inventory.proofs.items.ListedItemElement.take.Goals as goal

pub returns : goal.returns
returns c = taken_there c.item_at.ensures (ap item_at c.in_ok-item.was) (c.put_item.ensures.is (plain-item c.item_at.ensures (ap item_at c.in_ok-item.was)))
