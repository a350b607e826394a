use native.Mathlib.Omega.{arith}
use Prim.Native.Nat.{◌<◌}
use Rattle.machine.specs.Limits.{word}
use Rattle.requests.proofs.Keeping.{kept_shown}
use Rattle.tearing.proofs.TearingRows.{torn-shown}
use Rattle.tearing.proofs.TearingPlaces.{cleared}
use Rattle.tearing.proofs.teardown_package_claims.Goals as goal

pub count_packages-c-requires : goal.count_packages-c-requires
count_packages-c-requires c = kept_shown c.requires

pub drop_packages-requires : goal.drop_packages-requires
drop_packages-requires c = let k = c.requires in
    torn-shown c.args.clock k.state k.sound (c.tear_rows.ensures k.state k.sound k.writes)

pub returns : goal.returns
returns c =
    let late : c.args.clock < word =
    omega (arith, c.well_formed.1.0) in
    cleared c.args.clock late c.count_packages-c.ensures c.tear_rows.ensures c.drop_packages.ensures
