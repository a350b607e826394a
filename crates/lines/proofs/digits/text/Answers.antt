-- `lines::digits::text` meets its contract.
use mathlib.Core.Path.{sym}
use Rattle.machine.proofs.DigitBytes.{text-figure, text-letter}
use Rattle.lines.proofs.digits.text.Goals as goal

pub returns-then-d-lt10 : goal.returns-then-d-lt10
returns-then-d-lt10 c = sym (text-figure _ c.if-d-lt10.true)

pub returns : goal.returns
returns c = sym (text-letter _ c.if-d-lt10.false)
