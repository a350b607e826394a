-- `inventory::numbers::ListedNumber::take` meets its contract.
use mathlib.Core.Path.{ap}
use native.Mathlib.Omega.{arith}
use Rattle.reading.specs.Given.{number_at}
use Rattle.reading.proofs.Elements.{taken_there}
use Rattle.inventory.proofs.Putting.{number_put}
use Rattle.inventory.proofs.numbers.ListedNumberElement.take.Goals as goal

pub returns : goal.returns
returns c = taken_there c.number_at.ensures (ap number_at c.in_ok-number.was) (number_put c.args.numbers.now c.args.i c.in_ok-number.number.value c.requires (omega arith) c.put.ensures.bytes)
