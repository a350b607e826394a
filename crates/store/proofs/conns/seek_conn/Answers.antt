use native.Mathlib.Omega.{arith}
use Prim.Native.Nat.{◌≤◌}
use lib.ListN.{length}
use Rattle.store.specs.PartLaws.{conn_laws}
use Rattle.store.proofs.Frame.{sizes, part-lent}
use Rattle.store.proofs.Searches.{conn_sought}
use Rattle.store.proofs.conns.seek_conn.Goals as goal

pub returns : goal.returns
returns c = record {
  most = omega (arith, c.seek_conn.ensures, c.conns-n.ensures);
  bound = λ f h.
      let z = sizes h in
      let few : length f.conns ≤ f.head.limit = omega (arith, c.requires) in
      conn_sought f.head.limit f.conns few (part-lent conn_laws h c.conns_part.ensures) (c.conns-n.ensures.field f h) c.seek_conn.ensures;
}
