-- `keeping::arranging::of_part` meets its contract.
use Rattle.keeping.proofs.Stepping.{tested_part}
use Rattle.keeping.proofs.arranging.of_part.Goals as goal

pub returns : goal.returns
returns c = tested_part c.args.connection _ c.in_ok-of_store.ensures c.of_connection.ensures.test c.of_connection.ensures.given
