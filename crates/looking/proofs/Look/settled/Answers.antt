-- `looking::Look::settled` meets its contract.
use Rattle.looking.proofs.Looked.{settled-owned, settled-free}
use Rattle.looking.proofs.Look.settled.Goals as goal

pub returns-in-Some : goal.returns-in-Some
returns-in-Some c = settled-owned c.args.clock c.args.self c.in-Some.due c.in-Some.is c.later.ensures c.earlier.ensures

pub returns-in-None : goal.returns-in-None
returns-in-None c = settled-free c.args.clock c.args.self c.in-None.is c.earlier-in-None.ensures
