-- `lines::digits::is_digit` meets its contract.
use Rattle.lines.proofs.DigitValues.{digit-test}
use Rattle.lines.proofs.digits.is_digit.Goals as goal

pub returns : goal.returns
returns c = digit-test c.args.c
