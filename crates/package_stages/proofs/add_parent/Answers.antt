use mathlib.Core.Path.{◌≡◌, refl, sym, ap, ◌∙◌}
use lib.ListN.{length}
use Rattle.ident.specs.Number.{wtxid}
use Rattle.ident.specs.Words.{hash_num}
use Rattle.regions.specs.Rows.{quad_number}
use Rattle.regions.proofs.Order.{number_quad}
use Rattle.places.specs.Places.{Place, blank}
use Rattle.machine.specs.Table.{at}
use Rattle.machine.proofs.Tests.{never}
use Rattle.store.specs.Flat.{flat_of}
use Rattle.requests.proofs.Keeping.{kept_shown}
use Rattle.package_stages.proofs.Seeking.{its-place}
use Rattle.package_stages.proofs.Placing.{parent-added}
use Rattle.package_stages.proofs.add_parent.Goals as goal

pub push_parent-requires : goal.push_parent-requires
push_parent-requires c = (
  kept_shown c.requires,
  c.in-Ok.ensures.inside refl,
  c.if-n-lt-MAX_PARENTS.true,
)

pub returns-then-n-lt-MAX_PARENTS : goal.returns-then-n-lt-MAX_PARENTS
returns-then-n-lt-MAX_PARENTS c = λ st s w o.
    let h = hash_num c.args.h in
    let n = hash_num c.args.parent in
    let z = c.in-Ok.ensures in
    let p = z.is st s w in
    let q = at (wtxid h) st.table in
    let d = blank 0 0 in
    let e = sym p.held_is in
    let there = its-place st s h z.small p.bound e d in
    let x : quad_number c.from-q.result ≡ n = ap quad_number c.from-q.ensures.words_are ∙ number_quad n in
    let count = c.parents-n.ensures.1 h z.small st s w
    (record { bound = p.bound; held_is = sym e }) in
    parent-added st s h z.small p.bound n e d
    (rw x at (c.push_parent.ensures (flat_of st) d (ap (λ (y : Place). length y.parents) there ∙ sym count) w))

pub returns-in_default : goal.returns-in_default
returns-in_default c = λ st s w o.
    let p = c.in_default.ensures.is st s w in
    never (p.held_is ∙ o.held)
