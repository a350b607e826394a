use mathlib.Core.Path.{sym, ap, ◌∙◌}
use Rattle.places.specs.Places.{Place, blank}
use Rattle.store.specs.Flat.{flat_of}
use Rattle.requests.proofs.Keeping.{kept_shown}
use Rattle.package_stages.proofs.Seeking.{head-combined, its-place}
use Rattle.package_stages.proofs.combined_at.Goals as goal

pub place_at-p-requires : goal.place_at-p-requires
place_at-p-requires c = (kept_shown c.requires.0, c.requires.1)

pub returns : goal.returns
returns c = λ h small st s w p.
    let d = blank 0 0 in
    c.from.ensures ∙ head-combined _ (c.place_at-p.ensures (flat_of st) d w) ∙ ap (λ (x : Place). x.combined) (its-place st s h small p.bound (sym p.held_is) d)
