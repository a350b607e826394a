use native.Mathlib.Omega.{arith}
use Prim.Native.Nat.{◌<◌}
use mathlib.Core.Path.{◌≡◌, refl, sym, ap, ◌∙◌}
use mathlib.Core.List.{[]}
use lib.ListN.{length, get_or}
use Rattle.ident.specs.Number.{wtxid}
use Rattle.ident.specs.Words.{hash_num}
use Rattle.lent_lists.specs.Lists.{hashes_in}
use Rattle.regions.specs.Rows.{quad_number}
use Rattle.regions.proofs.Order.{number_quad}
use Rattle.places.specs.Places.{Place, blank, with_stage, with_combined, with_wtxids}
use Rattle.machine.specs.Table.{at}
use Rattle.machine.proofs.Tests.{never}
use Rattle.store.specs.Flat.{flat_of, places_of}
use Rattle.store.proofs.Frame.{sizes}
use Rattle.requests.proofs.Keeping.{kept_shown}
use Rattle.package_stages.specs.Changes.{wtxids_of}
use Rattle.package_stages.proofs.Seeking.{its-place, head-stage}
use Rattle.package_stages.proofs.Placing.{claimed, flag_held, flag-stage}
use Rattle.package_stages.proofs.Filling.{no-wtxids, listed-shown, listed-inside, turned_shown, turned_inside, set_thrice}
use Rattle.package_stages.proofs.claim.Goals as goal

pub place_at-x-requires : goal.place_at-x-requires
place_at-x-requires c = (kept_shown c.requires.0, c.in-Ok.ensures.inside refl)

pub push_wtxids-requires : goal.push_wtxids-requires
push_wtxids-requires c = (
  no-wtxids c.requires.0
      (c.in-Ok.ensures.inside refl)
      c.place_at-x.ensures c.if-x-eq-FLAG.true,
  c.requires.1,
)

pub set_combined-requires : goal.set_combined-requires
set_combined-requires c =
    let k = no-wtxids c.requires.0
    (c.in-Ok.ensures.inside refl) c.place_at-x.ensures
    c.if-x-eq-FLAG.true in
    (listed-shown with_wtxids k (blank 0 0) c.push_wtxids.ensures, listed-inside with_wtxids k (blank 0 0) c.push_wtxids.ensures)

pub set_stage-requires : goal.set_stage-requires
set_stage-requires c =
    let d = blank 0 0 in
    let k = no-wtxids c.requires.0
    (c.in-Ok.ensures.inside refl)
    c.place_at-x.ensures
    c.if-x-eq-FLAG.true in
    let x = listed-shown with_wtxids k d c.push_wtxids.ensures in
    let y = listed-inside with_wtxids k d c.push_wtxids.ensures in
    let i = c.in-Ok.i in
    let g = with_combined (quad_number c.from-q.result) in
    let turn = c.set_combined.ensures d in
    (turned_shown x i g d turn, turned_inside x i g d turn y)

pub returns-then-x-eq-FLAG : goal.returns-then-x-eq-FLAG
returns-then-x-eq-FLAG c = λ st s w o.
    let h = hash_num c.args.h in
    let n = hash_num c.args.combined in
    let hs = hashes_in c.args.list.now in
    let d = blank 0 0 in
    let i = c.in-Ok.i in
    let ps = places_of st.table in
    let small = c.in-Ok.ensures.small in
    let p = c.in-Ok.ensures.is st s w in
    let q = c.from-q.result in
    let z = sizes w in
    let l : i < length ps =
    omega (
      arith,
      c.in-Ok.ensures.inside refl,
    ) in
    let there = its-place st s h small p.bound
    (sym p.held_is) d in
    let none_yet : (get_or ps i d).wtxids ≡ [] = ap (λ (x : Place). x.wtxids) there ∙ ap wtxids_of o.bare in
    let x : quad_number q ≡ n = ap quad_number c.from-q.ensures.words_are ∙
    number_quad n in
    let listed = c.push_wtxids.ensures (flat_of st) d none_yet w in
    let b = c.set_stage.ensures d _ (c.set_combined.ensures d _ listed) in
    claimed st s h small p.bound n hs o d (rw x at (set_thrice (flat_of st) i (with_wtxids hs (get_or ps i d)) d (with_combined (quad_number q)) (with_stage 2) l b))

pub returns-else-x-eq-FLAG : goal.returns-else-x-eq-FLAG
returns-else-x-eq-FLAG c = λ st s w o.
    let h = hash_num c.args.h in
    let d = blank 0 0 in
    let p = c.in-Ok.ensures.is st s w in
    let there = its-place st s h c.in-Ok.ensures.small p.bound (sym p.held_is) d in
    absurd (c.if-x-eq-FLAG.false (head-stage _ (c.place_at-x.ensures (flat_of st) d w) ∙ ap (λ (x : Place). x.stage) there ∙ flag-stage (at (wtxid h) st.table) o))

pub returns-in_default : goal.returns-in_default
returns-in_default c = λ st s w o.
    let p = c.in_default.ensures.is st s w in
    never (p.held_is ∙ flag_held (at (wtxid (hash_num c.args.h)) st.table) o)
