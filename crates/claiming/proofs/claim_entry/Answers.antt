-- `claiming::claim_entry` meets its contract.
use Rattle.claiming.specs.Claiming.{entry_of}
use Rattle.claiming.proofs.Below.{key_below}
use Rattle.claiming.proofs.OneEntry.{entry-taken}
use Rattle.claiming.proofs.claim_entry.Goals as goal

pub returns : goal.returns
returns c = entry-taken c.args.clock.time
    (entry_of c.args.e) c.takes.ensures
    (key_below c.args.e c.well_formed.1.1.0)
    c.if-not-takes.false c.own.ensures
