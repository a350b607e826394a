-- `looking::Look::before_rows` meets its contract.
use Rattle.looking.proofs.Looked.{looks_none}
use Rattle.looking.proofs.Look.before_rows.Goals as goal

pub returns : goal.returns
returns c = λ clock t e. looks_none clock t c.args.rest e
