use mathlib.Core.Path.{refl, sym, ◌∙◌}
use Rattle.ident.specs.Number.{wtxid}
use Rattle.ident.specs.Words.{hash_num}
use Rattle.places.specs.Places.{blank}
use Rattle.machine.specs.Table.{at}
use Rattle.machine.proofs.Tests.{never}
use Rattle.store.specs.Flat.{flat_of}
use Rattle.requests.proofs.Keeping.{kept_shown}
use Rattle.package_stages.proofs.Placing.{packed_held, stage-set}
use Rattle.package_stages.proofs.enqueue.Goals as goal

pub set_stage-requires : goal.set_stage-requires
set_stage-requires c = (kept_shown c.requires, c.in-Ok.ensures.inside refl)

pub returns-in-Ok : goal.returns-in-Ok
returns-in-Ok c = λ x st s w e.
    let z = c.in-Ok.ensures in
    let p = z.is st s w in
    stage-set st s (hash_num c.args.h) z.small p.bound x e (sym p.held_is) (blank 0 0) (c.set_stage.ensures (blank 0 0) (flat_of st) w)

pub returns-in_default : goal.returns-in_default
returns-in_default c = λ x st s w e.
    let p = c.in_default.ensures.is st s w in
    never (p.held_is ∙ packed_held (at (wtxid (hash_num c.args.h)) st.table) x e)
