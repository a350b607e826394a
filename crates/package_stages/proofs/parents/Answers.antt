use native.Mathlib.Omega.{arith}
use Prim.Native.Nat.{◌<◌}
use mathlib.Core.Path.{sym, ap, ◌∙◌}
use lib.ListN.{length}
use Rattle.places.specs.Places.{Place, blank}
use Rattle.store.specs.Flat.{flat_of, places_of}
use Rattle.store.proofs.Frame.{sizes}
use Rattle.requests.proofs.Keeping.{kept_shown}
use Rattle.package_stages.proofs.Seeking.{head-parents, few_parents, its-place}
use Rattle.package_stages.proofs.parents.Goals as goal

pub place_at-p-requires : goal.place_at-p-requires
place_at-p-requires c = (kept_shown c.requires.0, c.requires.1)

pub returns : goal.returns
returns c =
    let kept = c.requires.0 in
    let d = blank 0 0 in
    let z = sizes kept.writes in
    let l : c.args.i < length (places_of kept.state.table) = omega (arith, c.requires.1) in
    let n = head-parents _ (c.place_at-p.ensures (flat_of kept.state) d kept.writes) in (
      omega (arith, few_parents kept.state kept.sound c.args.i d l),
      λ h small st s w p.
          head-parents _ (c.place_at-p.ensures (flat_of st) d w) ∙ ap (λ (x : Place). length x.parents) (its-place st s h small p.bound (sym p.held_is) d),
    )
