use Rattle.std.proofs.Common.{arith}
use Rattle.std.proofs.Math.Dec.{lit<, lit≤}
use Rattle.lines.proofs.Writing.{wrote_one, wrote_last, rest_end, decimal-fits}
use Rattle.lines.proofs.write.+put_decimal.Goals as goal

pub returns-then-n-lt10 : goal.returns-then-n-lt10
returns-then-n-lt10 t c = rw c.text.ensures (wrote_one 10 18 (lit< tt) (lit≤ tt) _ _ _ c.requires c.if-n-lt10.true)

pub bounds-s-e : goal.bounds-s-e
bounds-s-e t c =
    let g = decimal-fits c.ranges.n.fits in
    omega (arith, rest_end 10 18 (lit< tt) (lit≤ tt) c.args.s.now c.args.a c.args.n c.requires c.if-n-lt10.false g c.put_decimal-e.ensures, c.put_decimal-e.auto.s)

pub overflow_add-result-2 : goal.overflow_add-result-2
overflow_add-result-2 t c =
    let g = decimal-fits c.ranges.n.fits in
    omega (arith, rest_end 10 18 (lit< tt) (lit≤ tt) c.args.s.now c.args.a c.args.n c.requires c.if-n-lt10.false g c.put_decimal-e.ensures)

pub returns : goal.returns
returns t c =
    let g = decimal-fits c.ranges.n.fits in
    rw c.text-2.ensures (wrote_last 10 18 (lit< tt) (lit≤ tt) c.args.s.now c.args.a c.args.n c.requires c.if-n-lt10.false g c.put_decimal-e.ensures)
