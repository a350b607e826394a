use native.Mathlib.Omega.{arith}
use Prim.Native.Nat.{◌<◌}
use lib.ListN.{length, length-set}
use Rattle.store.specs.PartLaws.{place_laws}
use Rattle.store.proofs.Frame.{sizes, part-lent, part_back, part_same}
use borrow.Author.Rules.{rules}
use Rattle.store.proofs.package_places.set_stage.Goals as goal

pub returns : goal.returns
returns c = λ d f h.
    let z = sizes h in
    let i : c.args.i < length f.places =
    omega (arith, c.requires) in
    let held = c.set_stage.ensures.region f.head.places f.places d i (part-lent place_laws h c.places_part-part.ensures) in
    part_same place_laws h (search rules) _ (length-set f.places c.args.i _)
    (part_back place_laws h c.places_part-part.ensures _ _ c.set_stage.auto.s held)
