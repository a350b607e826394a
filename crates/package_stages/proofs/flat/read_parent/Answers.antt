use native.Mathlib.Omega.{arith}
use Rattle.store.specs.PartLaws.{place_laws}
use Rattle.store.proofs.Frame.{sizes, part-lent}
use Rattle.package_stages.proofs.flat.read_parent.Goals as goal

pub returns : goal.returns
returns c = λ f d h l.
    let z = sizes h in
    c.read_parent.ensures.region f.head.places f.places d 0 (omega (arith, c.requires)) l (part-lent place_laws h c.places_part.ensures)
