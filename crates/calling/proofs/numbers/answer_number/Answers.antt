-- `calling::numbers::answer_number` meets its contract.
use mathlib.Core.Path.{refl}
use Rattle.printing.proofs.Printing.{number-told, carried}
use Rattle.calling.proofs.Unplanned.{number_unplanned, keeps-call}
use Rattle.reading.specs.Given.{values_of}
use Rattle.calling.proofs.numbers.answer_number.Goals as goal

pub returns : goal.returns
returns c = keeps-call refl (number_unplanned c.args.w
    (values_of c.args.v))
    (carried _ c.carry_out-a.ensures refl ((number-told c.carry_out-a.result c.number.ensures).text _))
