-- `postponing::among::consider` meets its contract.
use native.Mathlib.Omega.{arith}
use Rattle.parenting.proofs.Waiting.{parent_low}
use Rattle.postponing.proofs.Considering.{considers_crowded, considers_full, considers_in}
use Rattle.postponing.proofs.among.consider.Goals as goal

pub returns-in-None : goal.returns-in-None
returns-in-None c =
    considers_crowded (parent_low c.args.p c.well_formed.1.1.1.1.1.0) c.crowded_in.ensures c.if-crowded_in.true (rw c.in-None.is at c.victim_in.ensures)

pub returns-then-spent : goal.returns-then-spent
returns-then-spent c = considers_full (parent_low c.args.p c.well_formed.1.1.1.1.1.0) c.full.ensures c.if-full.true c.if-spent.true

pub returns : goal.returns
returns c =
    considers_in (parent_low c.args.p c.well_formed.1.1.1.1.1.0) c.crowded_in.ensures c.if-crowded_in.false c.full.ensures c.if-full.false
    (λ st g w. (c.figures-f.ensures st g w).held) (omega (arith, c.if-f-new.false))
