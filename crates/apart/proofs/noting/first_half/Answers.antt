-- `apart::noting::first_half` meets its contract.
use Rattle.apart.proofs.Notes.{halved}
use Rattle.apart.proofs.noting.first_half.Goals as goal

pub returns : goal.returns
returns c = rw c.min.ensures (halved c.args.n)
