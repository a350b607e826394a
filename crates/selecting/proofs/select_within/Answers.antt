-- `selecting::select_within` meets its contract.
use mathlib.Core.Path.{refl}
use Rattle.selecting.proofs.Picking.{conn-at, select_none, select_some}
use Rattle.selecting.proofs.select_within.Goals as goal

pub returns-in_default : goal.returns-in_default
returns-in_default c = select_none c.args.clock.time c.choose_within.result c.choose_within.ensures c.args.n c.in_default.is _

pub returns : goal.returns
returns c = select_some c.args.clock.time c.choose_within.result c.choose_within.ensures c.args.n c.in-Some.p c.in-Some.is c.key_of-k.ensures (conn-at c.in-Some.p.row) c.own.ensures refl
