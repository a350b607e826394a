-- `public_plans::on_sound::plans::list_needs` meets its contract: so many entries are in the bytes.
use native.Mathlib.Omega.{arith}
use Rattle.public_plans.proofs.Entered.{length-entries}
use Rattle.public_plans.proofs.on_sound.plans.list_needs.Goals as goal

pub returns : goal.returns
returns c = omega (arith, c.entries.ensures, length-entries c.args.list.now)
