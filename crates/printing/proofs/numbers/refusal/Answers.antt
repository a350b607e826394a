-- `printing::numbers::refusal` meets its contract.
use Rattle.printing.proofs.Printing.{printed-refusal}
use Rattle.printing.proofs.numbers.refusal.Goals as goal

pub returns : goal.returns
returns c = printed-refusal c.requires c.args.n c.put_bytes-e.ensures c.put_decimal.ensures
