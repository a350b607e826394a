use native.Mathlib.Omega.{arith}
use Prim.Native.Nat.{◌≤◌}
use lib.ListN.{length}
use Rattle.store.specs.PartLaws.{row_laws}
use Rattle.store.proofs.Frame.{sizes, part-lent}
use Rattle.store.proofs.Searches.{row-met, found-met}
use Rattle.store.proofs.rows.find_row.Goals as goal

pub returns : goal.returns
returns c =
    found-met (λ r m. record {
      least = m.least;
      most = m.most;
      first = λ f h.
          let z = sizes h in
          let few : length f.rows ≤ f.head.limit = omega (arith, c.requires) in
          row-met f.head.limit f.rows few (part-lent row_laws h c.rows_part.ensures) (omega (arith, c.requires)) m;
    }) c.find_conn_in.result c.find_conn_in.ensures
