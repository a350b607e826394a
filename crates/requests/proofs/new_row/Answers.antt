-- `requests::new_row` meets its contract.
use mathlib.Core.Bool.{false}
use Rattle.store.proofs.Packed.{packed}
use Rattle.requests.proofs.Pushing.{row_new}
use Rattle.requests.specs.Changes.{candidate_of}
use Rattle.requests.proofs.new_row.Goals as goal

pub returns : goal.returns
returns c = λ q eh ek o em. row_new q (candidate_of c.args.c) eh ek o em (packed c.args.k.kind c.is_witness.result c.args.c.preferred false c.args.mark c.from.ensures c.is_witness.ensures)
