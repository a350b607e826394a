-- `apart::delayed::Delayed::announce_beside` meets its contract.
use mathlib.Core.Path.{ap}
use mathlib.Core.Bool.{not}
use Rattle.ident.specs.Words.{hash_num}
use Rattle.apart.proofs.Delays.{beside_alone, beside-kept, beside-refused, pends_still, beside_settled}
use Rattle.apart.specs.Delayed.{delay_of}
use Rattle.apart.proofs.delayed.Delayed.announce_beside.Goals as goal

pub returns-then-self : goal.returns-then-self
returns-then-self c = beside_alone c.args.p.connection.number c.args.p.clock (hash_num c.args.p.hash) c.args.p.priority (delay_of c.args.self.now) c.if-self.true

pub returns-in-Kept : goal.returns-in-Kept
returns-in-Kept c =
    let p = c.args.p in
    beside-kept p.connection.number p.clock (hash_num p.hash) p.priority (delay_of c.args.self.now) c.if-self.false c.announce_among.ensures c.in-Kept.is

pub returns-in-Refused : goal.returns-in-Refused
returns-in-Refused c =
    let p = c.args.p in
    beside-refused p.connection.number p.clock (hash_num p.hash) p.priority (delay_of c.args.self.now) c.if-self.false c.announce_among.ensures c.in-Refused.is

pub settle-requires : goal.settle-requires
settle-requires c =
    let p = c.args.p in
    pends_still p.connection.number p.clock (hash_num p.hash) p.priority (delay_of c.args.self.now) c.if-self.false c.announce_among.ensures c.in-Alone.is (c.requires (ap not c.if-self.false))

pub returns-in-Alone : goal.returns-in-Alone
returns-in-Alone c =
    let p = c.args.p in
    beside_settled p.connection.number p.clock (hash_num p.hash) p.priority (delay_of c.args.self.now) c.if-self.false c.announce_among.ensures c.in-Alone.is c.settle.ensures.0 c.settle.ensures.1
