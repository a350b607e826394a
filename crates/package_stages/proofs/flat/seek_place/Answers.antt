use native.Mathlib.Omega.{arith}
use Prim.Native.Nat.{◌≤◌}
use lib.ListN.{length}
use Rattle.store.specs.PartLaws.{place_laws}
use Rattle.store.proofs.Frame.{sizes, part-lent}
use Rattle.store.proofs.Searches.{place_sought}
use Rattle.package_stages.proofs.flat.seek_place.Goals as goal

pub returns : goal.returns
returns c = record {
  most = omega (arith, c.seek_place.ensures, c.held_places-n.ensures);
  bound = λ f h.
      let z = sizes h in
      let few : length f.places ≤ f.head.places = omega (arith, c.requires) in
      place_sought f.head.places f.places few (part-lent place_laws h c.places_part.ensures) (c.held_places-n.ensures.field f h) c.seek_place.ensures;
}
