-- `tearing::packaged::reach` meets its contract.
use native.Mathlib.Omega.{arith}
use mathlib.Core.Path.{ap}
use lib.Dec.{leb}
use lib.ListN.{get_or}
use Rattle.store.proofs.Frame.{sizes}
use Rattle.package_stages.proofs.Seeking.{head-hash, head-stage}
use Rattle.tearing.proofs.packaged.reach.Goals as goal

pub returns-clause-stands : goal.returns-clause-stands
returns-clause-stands c = λ f w.
    let z = sizes w in
    record {
      most = omega (arith, c.requires.1);
      before = λ d l. c.hash_before-before.ensures f d w l;
      hash = λ d l. head-hash (get_or f.places c.args.i d) (c.place_at-p.ensures f d w);
      packaged = λ d l. ap (leb 2) (head-stage (get_or f.places c.args.i d) (c.place_at-p.ensures f d w));
    }
