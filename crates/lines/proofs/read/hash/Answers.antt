-- `lines::read::hash` meets its contract.
use Rattle.lines.proofs.Scans.{scan-empty}
use mathlib.Core.Path.{sym, ◌∙◌}
use Rattle.lines.proofs.HashWords.{hash-long, hash-zero, hash-words, led, not_led}
use Rattle.lines.proofs.read.hash.Goals as goal

pub returns-in_err-first : goal.returns-in_err-first
returns-in_err-first c = rw c.from_residual.ensures (sym (scan-empty _ _ c.args.f.now c.in_err-first.ensures.cases))

pub returns-then-first-is_empty : goal.returns-then-first-is_empty
returns-then-first-is_empty c = let p = led _ _ c.is_empty.ensures c.if-first-is_empty.true in hash-zero c.in_ok-first.ensures.cases.0 p.0 p.1

pub returns-then-f-gt-HASH_DIGITS : goal.returns-then-f-gt-HASH_DIGITS
returns-then-f-gt-HASH_DIGITS c = hash-long c.in_ok-first.ensures.cases.0 c.if-f-gt-HASH_DIGITS.true

pub returns : goal.returns
returns c = c.words.ensures ∙ hash-words c.in_ok-first.ensures.cases.0 c.if-f-gt-HASH_DIGITS.false (not_led _ _ c.is_empty.ensures c.if-first-is_empty.false)
