-- `printing::numbers::figures` meets its contract.
use native.Mathlib.Omega.{arith}
use Rattle.printing.proofs.EntryLists.{number_end}
use Rattle.printing.proofs.Printing.{decimal_end, printed-figures}
use Rattle.printing.proofs.numbers.figures.Goals as goal

pub put_number-e-requires : goal.put_number-e-requires
put_number-e-requires c = omega (arith, decimal_end _ c.put_decimal-e.ensures)

pub put_number-e-requires-2 : goal.put_number-e-requires-2
put_number-e-requires-2 c = omega (arith, decimal_end _ c.put_decimal-e.ensures, number_end _ c.put_number-e.ensures)

pub put_number-requires : goal.put_number-requires
put_number-requires c = omega (arith, decimal_end _ c.put_decimal-e.ensures, number_end _ c.put_number-e.ensures, number_end _ c.put_number-e-2.ensures)

pub returns : goal.returns
returns c =
    printed-figures c.requires c.args.f.held c.args.f.free c.args.f.free_preferred c.args.f.permille c.put_decimal-e.ensures c.put_number-e.ensures
    c.put_number-e-2.ensures c.put_number.ensures
