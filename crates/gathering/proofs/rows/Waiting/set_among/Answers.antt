-- `gathering::rows::Waiting::set_among` meets its contract.
use mathlib.Core.Path.{refl}
use native.Mathlib.Omega.{arith}
use Rattle.ident.specs.Words.{key_num}
use Rattle.requests.specs.Changes.{candidate_of}
use Rattle.announcing.proofs.Lent.{key_low}
use Rattle.gathering.proofs.OneMore.{among}
use Rattle.gathering.proofs.rows.Waiting.set_among.Goals as goal

pub returns : goal.returns
returns c =
    let k = c.args.k in
    (among (key_num k) (candidate_of c.args.c) (key_low k c.well_formed.1.1.0) (omega arith) c.waiting_row.ensures c.put_in.ensures, refl)
