use Prim.Native.Nat.{ℕ}
use mathlib.Core.Path.{sym, ap, ◌∙◌}
use mathlib.Core.List.{List}
use lib.ListN.{get_or}
use Rattle.regions.specs.Rows.{quad_number}
use Rattle.regions.proofs.Order.{number_quad}
use Rattle.places.specs.Places.{Place, blank}
use Rattle.store.specs.Flat.{flat_of}
use Rattle.requests.proofs.Keeping.{kept_shown}
use Rattle.package_stages.proofs.Seeking.{its-place}
use Rattle.package_stages.proofs.parent_at.Goals as goal

pub read_parent-q-requires : goal.read_parent-q-requires
read_parent-q-requires c = (kept_shown c.requires.0, c.requires.1, c.requires.2)

pub returns : goal.returns
returns c = λ h small st s w p m.
    let d = blank 0 0 in
    let e = ap (λ (x : Place). x.parents) (its-place st s h small p.bound (sym p.held_is) d) in
    let q = c.read_parent-q.ensures (flat_of st) d w (rw e m) in
    c.from.ensures ∙ ap quad_number q ∙ number_quad _ ∙ ap (λ (x : List ℕ). get_or x c.args.j 0) e
