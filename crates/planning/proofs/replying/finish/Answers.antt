-- `planning::replying::finish` meets its contract.
use native.Mathlib.Omega.{arith}
use Rattle.planning.proofs.Whole.{rows-of, closed}
use Rattle.planning.proofs.replying.finish.Goals as goal

pub by_priority-requires : goal.by_priority-requires
by_priority-requires c = let r = rows-of c.requires.0 in (r.0, r.1, c.requires.1, c.requires.1, c.requires.1)

pub returns : goal.returns
returns c = closed c.args.out.now (omega (arith, c.by_priority.auto.to, c.requires.1)) c.by_priority.ensures c.put_entries.ensures c.give_back.ensures
