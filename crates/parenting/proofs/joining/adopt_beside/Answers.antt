-- `parenting::joining::adopt_beside` meets its contract.
use mathlib.Core.Path.{sym}
use native.Mathlib.Omega.{arith}
use Rattle.machine.proofs.Tests.{never}
use Rattle.announcing.proofs.Lent.{peer_of}
use Rattle.parenting.proofs.Waiting.{parent_low}
use Rattle.parenting.proofs.Adopting.{adopts_in}
use Rattle.parenting.proofs.joining.adopt_beside.Goals as goal

pub returns : goal.returns
returns c = record {
  adopts = λ _. adopts_in (peer_of c.args.p.connection (omega arith)) (omega arith) (omega arith) (parent_low c.args.p c.well_formed.1.1.0)
      c.adoptable.ensures c.if-not-adoptable.false c.announce_parent.ensures;
  alone = λ e. never (sym e);
}
