-- `parenting::displacing::adopt_listed` meets its contract.
use native.Mathlib.Omega.{arith}
use Rattle.announcing.proofs.Lent.{peer_of}
use Rattle.parenting.proofs.Waiting.{parent_low}
use Rattle.parenting.proofs.Adopting.{adopts_listed}
use Rattle.parenting.proofs.displacing.adopt_listed.Goals as goal

pub returns : goal.returns
returns c =
    adopts_listed (peer_of c.args.p.connection (omega arith)) (omega arith) (omega arith) (parent_low c.args.p c.well_formed.1.1.1.0)
    c.if-q-eq0.false c.adoptable.ensures c.if-not-adoptable.false c.listed_at.ensures c.if-listed_at.false c.announce_parent.ensures
