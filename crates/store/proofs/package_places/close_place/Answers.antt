use native.Mathlib.Omega.{arith}
use Prim.Native.Nat.{◌-◌, ◌<◌}
use mathlib.Core.Path.{◌≡◌, sym, ap, ◌∙◌}
use lib.ListN.{length}
use Rattle.regions.specs.Regions.{remove_at}
use Rattle.store.specs.PartLaws.{place_laws}
use Rattle.store.proofs.Frame.{sizes, part-lent, part_back, part-counted, length_remove}
use borrow.Author.Rules.{rules}
use Rattle.store.proofs.package_places.close_place.Goals as goal

pub returns : goal.returns
returns c = λ f h.
    let z = sizes h in
    let n = c.held_places-n.ensures.field f h in
    let i : c.args.i < length f.places =
    omega (arith, c.requires) in
    let held = c.remove.ensures.region f.head.places f.places (sym n) (part-lent place_laws h c.places_part-part.ensures) in
    let m : length (remove_at c.args.i f.places) ≡
    c.held_places-n.result - 1 = length_remove f.places
    c.args.i i ∙ ap (λ j. j - 1) (sym n) in
    part-counted place_laws h (search rules) _ _ m (part_back place_laws h c.places_part-part.ensures _ _ c.remove.auto.s held) c.put.ensures.word
