use mathlib.Core.Path.{◌≡◌, ap, ◌∙◌}
use Rattle.ident.specs.Words.{hash_num}
use Rattle.regions.specs.Rows.{quad_number}
use Rattle.regions.proofs.Order.{number_quad}
use Rattle.store.specs.Flat.{flat_of}
use Rattle.requests.proofs.Keeping.{kept_shown}
use Rattle.package_stages.proofs.Placing.{opened}
use Rattle.package_stages.proofs.open_info.Goals as goal
use Rattle.package_stages.proofs.open_info.Goals.{in-Ok, in-Ok-2}

pub open_place-requires : goal.open_place-requires
open_place-requires c = elim c.match-seek.branch [
  | in-Ok w ↦ rw w.i-is (kept_shown c.requires.0, w.in-Ok.ensures.most, c.requires.1)
  | in-Ok-2 w ↦ rw w.i-is (kept_shown c.requires.0, w.in-Ok.ensures.most, c.requires.1)
]

pub returns : goal.returns
returns c = λ st s w o.
    let h = hash_num c.args.h in
    let x : quad_number c.from-q.result ≡ h = ap quad_number c.from-q.ensures.words_are ∙ number_quad h in
    let made = rw x at (c.open_place.ensures (flat_of st) w) in
    elim c.match-seek.branch [
      | in-Ok y ↦ opened st s h c.from-q.ensures.small (rw y.i-is (y.in-Ok.ensures.is st s w).bound) o made
      | in-Ok-2 y ↦ opened st s h c.from-q.ensures.small (rw y.i-is (y.in-Ok.ensures.is st s w).bound) o made
    ]
