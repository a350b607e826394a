-- `wrapping::offering::announce_one` meets its contract.
use Rattle.lent_lists.specs.Items.{offers_in}
use Rattle.wrapping.proofs.Gathered.{one_announced}
use Rattle.wrapping.proofs.offering.announce_one.Goals as goal

pub returns : goal.returns
returns c = one_announced c.args.b.terms
    (offers_in c.args.b.items.now c.args.b.priorities.now)
    c.args.i c.requires.1
    c.offered_at-c.ensures c.announce.ensures
