-- `lines::read::digits_of` meets its contract. The loop's invariant: what is read of the field is what is read further, behind the digits of n.
use native.Mathlib.Nat.{pos_of_ne-zero}
use native.Mathlib.Omega.{arith}
use Rattle.lines.proofs.Scans.{scan-empty, first_none, first_refused, first_read, all_read, zero_first, next_none, next_refused, next_read}
use mathlib.Core.Path.{sym}
use Rattle.lines.proofs.read.digits_of.Goals as goal

pub returns-in_err-first : goal.returns-in_err-first
returns-in_err-first g c = rw c.from_residual.ensures (sym (scan-empty _ _ c.args.f.now c.in_err-first.ensures.cases))

pub returns-in_err-first-2 : goal.returns-in_err-first-2
returns-in_err-first-2 g c = rw c.from_residual-in_err-first-2.ensures (first_none _ _ c.in_ok-first.ensures.cases.0 c.in_err-first-2.ensures)

pub returns-in_err-n : goal.returns-in_err-n
returns-in_err-n g c =
    rw c.from_residual-in_err-n.ensures (first_refused _ _ c.in_ok-first.ensures.cases.0 g.met.N.Numeral.limit_in c.in_ok-first-2.ensures.0 c.zero.ensures c.in_err-n.ensures)

pub loop-c-init : goal.loop-c-init
loop-c-init g c =
    let p = first_read _ _ c.in_ok-first.ensures.cases.0 g.met.N.Numeral.limit_in c.in_ok-first-2.ensures.0 c.zero.ensures c.in_ok-n.ensures in
    (omega (arith, p.0), omega (arith, p.0), p.1)

pub returns-then-first-eq0 : goal.returns-then-first-eq0
returns-then-first-eq0 g c = zero_first _ _ _ _ _ _ c.loop-c.invariant.2 c.loop-c-test.true (c.loop-c.invariant.1 c.if-first-eq0.true)

pub returns-in_err-decimal : goal.returns-in_err-decimal
returns-in_err-decimal g c = rw c.from_residual-in_err-decimal.ensures (next_none _ _ _ _ _ _ c.loop-c.invariant.2 c.loop-c-test.true c.in_err-decimal.ensures)

pub returns-in_err-n-2 : goal.returns-in_err-n-2
returns-in_err-n-2 g c =
    rw c.from_residual-in_err-n-2.ensures
    (next_refused _ _ _ _ _ _ c.loop-c.invariant.2 c.loop-c-test.true (c.loop-c.invariant.0 (pos_of_ne-zero c.if-first-eq0.false)) c.in_ok-decimal.ensures.0 c.in_err-n-2.ensures)

pub loop-c-preserved : goal.loop-c-preserved
loop-c-preserved g c =
    let p = next_read _ _ _ _ _ _ c.loop-c.invariant.2 c.loop-c-test.true (c.loop-c.invariant.0 (pos_of_ne-zero c.if-first-eq0.false)) c.in_ok-decimal.ensures.0 c.in_ok-n-2.ensures in
    (λ _. p.0, λ z. absurd (c.if-first-eq0.false z), p.1)

pub returns : goal.returns
returns g c = all_read _ _ _ _ _ _ c.loop-c.invariant.2 c.loop-c-test.false
