-- `tearing::packaged::hash_before` meets its contract.
use Prim.Native.Nat.{◌-◌}
use lib.ListN.{get_or}
use Rattle.package_stages.proofs.Seeking.{head-hash}
use Rattle.tearing.proofs.packaged.hash_before.Goals as goal

pub returns : goal.returns
returns c = λ f d w l. head-hash (get_or f.places (c.args.i - 1) d) (c.place_at-p.ensures f d w)
