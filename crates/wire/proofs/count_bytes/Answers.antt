-- `wire::count_bytes` meets its contract.
use native.Mathlib.Omega.{arith}
use mathlib.Core.Path.{sym}
use Rattle.wire.proofs.Counts.{length_one, length_three}
use Rattle.wire.proofs.count_bytes.Goals as goal

pub returns-then-n-from : goal.returns-then-n-from
returns-then-n-from c = sym (length_one c.args.n (omega arith))

pub returns-else-n-from : goal.returns-else-n-from
returns-else-n-from c = sym (length_three c.args.n (omega arith) (omega arith))
