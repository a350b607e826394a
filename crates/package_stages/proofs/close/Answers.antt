use mathlib.Core.Path.{refl, sym}
use Rattle.ident.specs.Words.{hash_num}
use Rattle.store.specs.Flat.{flat_of}
use Rattle.requests.proofs.Keeping.{kept_shown}
use Rattle.package_stages.proofs.Placing.{place-closed, nothing-closed}
use Rattle.package_stages.proofs.close.Goals as goal

pub close_place-requires : goal.close_place-requires
close_place-requires c = (kept_shown c.requires, c.in-Ok.ensures.inside refl)

pub returns-in-Ok : goal.returns-in-Ok
returns-in-Ok c = λ st s w u.
    let z = c.in-Ok.ensures in
    let p = z.is st s w in
    place-closed st s (hash_num c.args.h) z.small p.bound (sym p.held_is) (c.close_place.ensures (flat_of st) w)

pub returns-in_default : goal.returns-in_default
returns-in_default c = λ st s w u.
    let z = c.in_default.ensures in
    let p = z.is st s w in
    nothing-closed st s (hash_num c.args.h) z.small p.bound (sym p.held_is) w
