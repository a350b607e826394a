use native.Mathlib.Omega.{arith}
use Rattle.store.specs.PartLaws.{place_laws}
use Rattle.store.proofs.Frame.{sizes, part-lent}
use Rattle.store.proofs.package_places.place_at.Goals as goal

pub returns : goal.returns
returns c = λ f d h.
    let z = sizes h in
    c.read_head.ensures.region f.head.places f.places d (omega (arith, c.requires)) (part-lent place_laws h c.places_part.ensures)
