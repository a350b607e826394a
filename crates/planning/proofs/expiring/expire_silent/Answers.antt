-- `planning::expiring::expire_silent` meets its contract.
use Prim.Native.Nat.{◌<◌}
use native.Mathlib.Omega.{arith}
use Rattle.machine.specs.Limits.{word}
use Rattle.planning.proofs.Readying.{made_silent}
use Rattle.planning.proofs.expiring.expire_silent.Goals as goal

pub returns : goal.returns
returns c = let late : c.args.clock < word = omega arith in made_silent late c.ready_due.ensures c.drop_due.ensures
