-- `wire::put_count` meets its contract.
use native.Mathlib.Omega.{arith}
use lib.ListN.{length-set}
use Rattle.wire.proofs.Counts.{length_one, length_three}
use Rattle.wire.proofs.Filling.{stores_one, stores_three}
use Rattle.wire.proofs.put_count.Goals as goal

pub bounds-s-0 : goal.bounds-s-0
bounds-s-0 c = omega (arith, length_one c.args.n (omega arith))

pub returns-then-n-from : goal.returns-then-n-from
returns-then-n-from c = stores_one c.args.s.now c.args.n (omega (arith, length_one c.args.n (omega arith))) (omega arith)

pub bounds-s-0-2 : goal.bounds-s-0-2
bounds-s-0-2 c = omega (arith, length_three c.args.n (omega arith) (omega arith))

pub bounds-s-1 : goal.bounds-s-1
bounds-s-1 c = simp length-set (omega (arith, length_three c.args.n (omega arith) (omega arith)))

pub bounds-s-2 : goal.bounds-s-2
bounds-s-2 c = simp length-set (omega (arith, length_three c.args.n (omega arith) (omega arith)))

pub returns : goal.returns
returns c = rw c.to_le_bytes.ensures (stores_three c.args.s.now c.args.n (omega (arith, length_three c.args.n (omega arith) (omega arith))) (omega arith) (omega arith))
