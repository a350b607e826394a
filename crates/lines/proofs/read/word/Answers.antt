-- `lines::read::word` meets its contract.
use native.Mathlib.Omega.{arith}
use Rattle.lines.proofs.HashWords.{reading-all, reading-done, reading-none, reading-fits, reading-on}
use Rattle.lines.proofs.read.word.Goals as goal

pub loop-c-init : goal.loop-c-init
loop-c-init c = reading-all c.args.f.now c.requires

pub returns-in_err-digit : goal.returns-in_err-digit
returns-in_err-digit c = rw c.from_residual.ensures (reading-none c.loop-c.invariant c.loop-c-test.true c.in_err-digit.ensures.digit)

pub overflow_mul-n : goal.overflow_mul-n
overflow_mul-n c = omega (arith, reading-fits c.loop-c.invariant c.loop-c-test.true c.in_ok-digit.ensures.digit c.in_ok-digit.ensures.below)

pub overflow_add-n : goal.overflow_add-n
overflow_add-n c = omega (arith, reading-fits c.loop-c.invariant c.loop-c-test.true c.in_ok-digit.ensures.digit c.in_ok-digit.ensures.below)

pub loop-c-preserved : goal.loop-c-preserved
loop-c-preserved c = reading-on c.loop-c.invariant c.loop-c-test.true c.in_ok-digit.ensures.digit c.in_ok-digit.ensures.below

pub returns : goal.returns
returns c = reading-done c.loop-c.invariant c.loop-c-test.false
