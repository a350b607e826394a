-- `lines::digits::value` meets its contract.
use mathlib.Core.Path.{sym}
use native.Mathlib.Omega.{arith}
use borrow.Author.Tests.{ltb-true}
use Rattle.machine.specs.Fields.{digit_of}
use Rattle.lines.proofs.DigitValues.{digit-none, digit-value}
use Rattle.lines.proofs.digits.value.Goals as goal

pub returns-then-not-is_digit-clause-digit : goal.returns-then-not-is_digit-clause-digit
returns-then-not-is_digit-clause-digit c = digit-none c.args.c c.if-not-is_digit.ensures

pub returns-clause-digit : goal.returns-clause-digit
returns-clause-digit c = digit-value c.args.c c.if-not-is_digit.ensures

pub returns-clause-below : goal.returns-clause-below
returns-clause-below c = omega (arith, digit-value c.args.c c.if-not-is_digit.ensures, ltb-true (digit_of c.args.c) 16 (sym c.if-not-is_digit.ensures))
