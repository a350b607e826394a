-- `apart::delayed::Delayed::announce` meets its contract.
use mathlib.Core.Path.{refl}
use Rattle.ident.specs.Words.{hash_num}
use Rattle.apart.proofs.Delays.{opens_pends, one_beside, waits_supplies, one_further}
use Rattle.apart.proofs.delayed.Delayed.announce.Goals as goal

pub announce_beside-requires : goal.announce_beside-requires
announce_beside-requires c = opens_pends c.requires

pub announce_further-requires : goal.announce_further-requires
announce_further-requires c = waits_supplies c.args.p.connection.number c.args.p.clock (hash_num c.args.p.hash) c.args.p.priority c.announce_beside.ensures refl c.in_default.is c.requires

pub returns-in-Some : goal.returns-in-Some
returns-in-Some c = one_beside c.args.p.connection.number c.args.p.clock (hash_num c.args.p.hash) c.args.p.priority c.announce_beside.ensures refl c.in-Some.is

pub returns : goal.returns
returns c = one_further c.args.p.connection.number c.args.p.clock (hash_num c.args.p.hash) c.args.p.priority c.announce_beside.ensures refl c.in_default.is c.announce_further.ensures
