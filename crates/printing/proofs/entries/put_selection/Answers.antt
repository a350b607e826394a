-- `printing::entries::put_selection` meets its contract.
use native.Mathlib.Omega.{arith}
use Rattle.choosing.specs.Choosing.{option_of}
use Rattle.printing.proofs.Printing.{decimal_end}
use Rattle.printing.proofs.EntryLists.{selection-wrote}
use Rattle.printing.proofs.entries.put_selection.Goals as goal

pub put_behind-to-requires : goal.put_behind-to-requires
put_behind-to-requires c = (
  omega (arith, c.requires.2),
  omega (
    arith,
    decimal_end c.args.considered c.put_decimal-at.ensures,
    c.put_decimal-at.auto,
    c.requires.0,
    c.requires.1,
  ),
)

pub put_time-requires : goal.put_time-requires
put_time-requires c =
    let d = c.put_decimal-at in
    let b = c.put_behind-to in
    omega (arith, b.ensures.0, decimal_end c.args.considered d.ensures, b.auto, d.auto, c.requires.0, c.requires.1)

pub returns : goal.returns
returns c =
    let b = c.put_behind-to.ensures in
    selection-wrote c.requires.0 c.args.answer.now c.args.considered c.args.n (option_of c.args.next) c.requires.1
    c.put_decimal-at.ensures b.1 b.0 c.put_time.ensures
