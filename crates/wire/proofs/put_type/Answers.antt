-- `wire::put_type` meets its contract.
use Rattle.wire.proofs.Filling.{stores_four}
use Rattle.wire.proofs.put_type.Goals as goal

pub returns : goal.returns
returns c = stores_four c.args.s.now c.args.a c.args.t c.requires c.to_le_bytes.ensures
