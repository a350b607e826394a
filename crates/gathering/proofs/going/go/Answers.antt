-- `gathering::going::go` meets its contract.
use native.Mathlib.Omega.{arith}
use Rattle.gathering.proofs.Departing.{gone_none}
use Rattle.gathering.proofs.going.go.Goals as goal

pub returns-in-0 : goal.returns-in-0
returns-in-0 c = gone_none (omega arith)
