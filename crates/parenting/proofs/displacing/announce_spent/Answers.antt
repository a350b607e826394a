-- `parenting::displacing::announce_spent` meets its contract.
use native.Mathlib.Omega.{arith}
use Rattle.announcing.proofs.Lent.{peer_of}
use Rattle.parenting.proofs.Waiting.{parent_low, let_kept}
use Rattle.parenting.proofs.NextParent.{spent-alone}
use Rattle.parenting.proofs.displacing.announce_spent.Goals as goal

pub announce_unaided-requires : goal.announce_unaided-requires
announce_unaided-requires c = let_kept c.let_in.ensures.0 c.requires

pub returns : goal.returns
returns c = (
  spent-alone (peer_of c.args.p.connection (omega arith)) (omega arith) (omega arith) (parent_low c.args.p c.well_formed.1.1.0) c.let_in.ensures.0 c.announce_unaided.ensures,
  c.let_in.ensures.1,
)
