-- `owners::list::needs` meets its contract.
use native.Mathlib.Omega.{arith}
use Rattle.lent_lists.proofs.Given.{length-hashes}
use Rattle.owners.proofs.list.needs.Goals as goal

pub overflow_mul-result : goal.overflow_mul-result
overflow_mul-result c = omega (arith, c.hashes.ensures, length-hashes c.args.hashes.now)
