-- `selecting::near::window_near` meets its contract.
use Rattle.requests.proofs.Keeping.{sought_order}
use Rattle.selecting.proofs.Nearing.{window_by}
use Rattle.selecting.proofs.near.window_near.Goals as goal

pub invariant_of-result : goal.invariant_of-result
invariant_of-result c = record { order = sought_order c.requires c.seek_near-from.ensures c.seek_near-to.ensures }

pub returns : goal.returns
returns c = window_by c.requires c.seek_near-from.ensures c.seek_near-to.ensures c.from-k.ensures _
