-- `announcing::evict::key_of` meets its contract.
use Rattle.announcing.proofs.Scanning.{key-read}
use Rattle.announcing.proofs.evict.key_of.Goals as goal

pub returns : goal.returns
returns c = key-read c.args.r c.from.ensures
