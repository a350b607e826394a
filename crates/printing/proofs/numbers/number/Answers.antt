-- `printing::numbers::number` meets its contract.
use Rattle.printing.proofs.Printing.{number-refused, number-said}
use Rattle.printing.proofs.numbers.number.Goals as goal

pub returns-in-Err : goal.returns-in-Err
returns-in-Err g c = number-refused _ c.in-Err.is c.from.ensures c.refusal.ensures

pub returns-in-Ok : goal.returns-in-Ok
returns-in-Ok g c = number-said c.in-Ok.is c.put_decimal.ensures
