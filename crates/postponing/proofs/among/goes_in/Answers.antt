-- `postponing::among::goes_in` meets its contract.
use Rattle.requests.proofs.Keeping.{kept_shown}
use Rattle.postponing.proofs.Considering.{goes_not, goes_by}
use Rattle.postponing.proofs.among.goes_in.Goals as goal

pub owner_in-requires : goal.owner_in-requires
owner_in-requires c = (kept_shown c.requires.0, c.requires.1)

pub returns-in-None : goal.returns-in-None
returns-in-None c = λ k s p. goes_not k s p c.owner_in.ensures c.in-None.is

pub returns-in-Some : goal.returns-in-Some
returns-in-Some c = λ k s p. goes_by k s p c.owner_in.ensures c.in-Some.is
