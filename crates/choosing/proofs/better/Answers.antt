-- `choosing::better` meets its contract.
use Rattle.choosing.proofs.Scanned.{better_found, better-row, better_first}
use Rattle.choosing.proofs.better.Goals as goal

pub returns-in-Some : goal.returns-in-Some
returns-in-Some c = record {
  is = rw c.in-Some.is (better_found c.args.p.row c.in-Some.found.row c.sooner.ensures c.if-sooner.true);
  found = λ rs h g. rw c.in-Some.is at g;
}

pub returns-in_default : goal.returns-in_default
returns-in_default c = record {
  is = rw c.in-Some.is (better-row c.args.p.row c.in-Some.found.row c.sooner.ensures c.if-sooner.false);
  found = λ rs h g. h;
}

pub returns-in_default-2 : goal.returns-in_default-2
returns-in_default-2 c = record {
  is = rw c.in_default.is (better_first c.args.p.row);
  found = λ rs h g. h;
}
