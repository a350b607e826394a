-- `lines::read::decimal` meets its contract.
use Rattle.lines.proofs.DigitValues.{digit-above, decimal-digit}
use Rattle.lines.proofs.read.decimal.Goals as goal

pub returns-then-c-gt57 : goal.returns-then-c-gt57
returns-then-c-gt57 c = digit-above c.args.c c.if-c-gt57.true

pub returns : goal.returns
returns c = decimal-digit c.args.c c.if-c-gt57.false c.value.result c.value.ensures.digit c.value.ensures.below
