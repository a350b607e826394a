-- `printing::keys::put_departure` meets its contract.
use native.Mathlib.Omega.{arith}
use Rattle.printing.proofs.Printing.{decimal_end}
use Rattle.printing.proofs.Behind.{departure_wrote}
use Rattle.printing.proofs.keys.put_departure.Goals as goal

pub put_behind-requires : goal.put_behind-requires
put_behind-requires c = let d = decimal_end c.args.own c.put_decimal-at.ensures in
    (omega (arith, d, c.put_decimal-at.auto), omega (arith, c.requires.2))

pub returns : goal.returns
returns c = departure_wrote c.requires.0
    c.args.answer.now
    c.args.own c.args.n
    c.requires.1 c.put_decimal-at.ensures
    c.put_behind.ensures.1 c.put_behind.ensures.0
