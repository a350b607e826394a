-- `claiming::entries::claim_next` meets its contract.
use Rattle.claiming.specs.Claiming.{entry_of}
use Rattle.claiming.proofs.Below.{key_below}
use Rattle.claiming.proofs.OneEntry.{more_taken, more_left}
use Rattle.claiming.proofs.entries.claim_next.Goals as goal

pub returns-then-claim_entry : goal.returns-then-claim_entry
returns-then-claim_entry c = more_taken c.args.clock.time
    (entry_of c.args.e)
    (key_below c.args.e
    c.well_formed.1.1.0) c.claim_entry.ensures
    c.args.n c.if-claim_entry.true _ c.put_entry.ensures

pub returns : goal.returns
returns c = more_left c.args.clock.time (entry_of c.args.e)
    (key_below c.args.e c.well_formed.1.1.0)
    c.claim_entry.ensures c.args.n c.if-claim_entry.false _
