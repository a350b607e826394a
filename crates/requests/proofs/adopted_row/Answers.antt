-- `requests::adopted_row` meets its contract.
use mathlib.Core.Bool.{true}
use Rattle.requests.specs.Changes.{candidate_of}
use Rattle.store.proofs.Packed.{packed}
use Rattle.requests.proofs.Adopting.{adopted-row}
use Rattle.requests.proofs.adopted_row.Goals as goal

pub returns : goal.returns
returns c = λ q d e.
    let k = candidate_of c.args.c in
    let bits = packed c.kind.result c.adopts_witness.result true c.owns.result c.is_marked.result c.from.ensures (rw e at c.adopts_witness.ensures) in
    rw (c.min.ensures, c.min-2.ensures, e) (adopted-row q k d (rw e at c.kind.ensures) (rw e at c.owns.ensures) (rw e at c.is_marked.ensures) c.args.same bits)
