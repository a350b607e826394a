use native.Mathlib.Omega.{arith}
use Prim.Native.Nat.{◌≤◌}
use lib.ListN.{length}
use Rattle.store.specs.PartLaws.{row_laws}
use Rattle.store.proofs.Frame.{sizes, part-lent}
use Rattle.store.proofs.Searches.{row_sought}
use Rattle.store.proofs.rows.seek_row.Goals as goal

pub returns : goal.returns
returns c = record {
  most = omega (arith, c.seek_row.ensures, c.rows-n.ensures);
  bound = λ f h.
      let z = sizes h in
      let few : length f.rows ≤ f.head.limit = omega (arith, c.requires) in
      row_sought f.head.limit f.rows few (part-lent row_laws h c.rows_part.ensures) (c.rows-n.ensures.field f h) c.seek_row.ensures;
}
