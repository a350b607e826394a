-- `choosing::either` meets its contract.
use Rattle.choosing.proofs.Scanned.{else_first, else-second}
use Rattle.choosing.specs.Choosing.{picked}
use Rattle.choosing.proofs.either.Goals as goal

pub returns-in-Some : goal.returns-in-Some
returns-in-Some c = record {
  is = rw c.in-Some.is (else_first c.in-Some.p.row (picked c.args.b) c.better.ensures.is);
  found = λ rs f g. c.better.ensures.found rs (rw c.in-Some.is at f) g;
}

pub returns-in-None : goal.returns-in-None
returns-in-None c = record { is = rw c.in-None.is (else-second (picked c.args.b)); found = λ rs f g. g }
