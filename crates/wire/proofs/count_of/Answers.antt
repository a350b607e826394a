-- `wire::count_of` meets its contract.
use mathlib.Core.Path.{refl}
use native.Mathlib.Omega.{arith}
use Rattle.wire.proofs.Counts.{none_empty, begins_one, long_first, none-short, low_count, begins-three}
use Rattle.wire.proofs.count_of.Goals as goal

pub matching-requires : goal.matching-requires
matching-requires c = begins_one c.args.p.now (omega arith) c.from.ensures (omega arith)

pub returns-then-n-from : goal.returns-then-n-from
returns-then-n-from c = low_count c.args.p.now (omega arith) (omega arith) (omega arith)

pub matching-requires-in-253 : goal.matching-requires-in-253
matching-requires-in-253 c =
    begins-three c.args.p.now (omega arith) (omega arith) (omega arith) (omega arith) (omega arith)

pub returns-in_default : goal.returns-in_default
returns-in_default c = none_empty c.args.p.now (omega arith)

pub returns-in_default-2 : goal.returns-in_default-2
returns-in_default-2 c = none-short c.args.p.now (omega arith) (omega arith) (omega arith)

pub returns-in_default-3 : goal.returns-in_default-3
returns-in_default-3 c = long_first c.args.p.now (omega arith) refl (omega arith)
