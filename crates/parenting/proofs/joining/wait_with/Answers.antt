-- `parenting::joining::wait_with` meets its contract.
use native.Mathlib.Omega.{arith}
use Rattle.parenting.proofs.Waiting.{parent_low, waits_if, counted_if}
use Rattle.announcing.proofs.Lent.{peer_of}
use Rattle.parenting.proofs.joining.wait_with.Goals as goal

pub returns : goal.returns
returns c = (
  waits_if (peer_of c.args.p.connection (omega arith)) (omega arith) (omega arith) (parent_low c.args.p c.well_formed.1.1.0)
      c.set_aside.result c.eq.ensures c.offered.ensures c.set_aside.ensures.0,
  counted_if c.args.new.now.count c.set_aside.result c.eq.ensures c.set_aside.ensures.1,
)
