use native.Mathlib.Omega.{arith}
use Prim.Native.Nat.{◌<◌, ◌≤◌}
use mathlib.Core.Path.{refl, ◌∙◌}
use lib.ListN.{length}
use Rattle.ident.specs.Words.{key_num}
use Rattle.machine.specs.Table.{at}
use Rattle.store.specs.Counting.{raise}
use Rattle.store.specs.Flat.{flat_of, rows_of}
use Rattle.store.proofs.Frame.{sizes}
use Rattle.requests.specs.Changes.{candidate_of}
use Rattle.requests.proofs.Keeping.{kept_shown, conns_in_order, from_at, to_at}
use Rattle.requests.proofs.Pushing.{its-hash, its-kind, its-mark, added-shown, pushed}
use Rattle.requests.proofs.push_in.Goals as goal

pub mark_in-mark-requires : goal.mark_in-mark-requires
mark_in-mark-requires c = (kept_shown c.requires.0, c.requires.2.most)

pub add-requires : goal.add-requires
add-requires c = (
  kept_shown c.requires.0,
  c.requires.2.most,
  c.requires.1,
)

pub count_in-requires : goal.count_in-requires
count_in-requires c =
    let kept = c.requires.0 in
    let z = sizes kept.writes in
    let rs = rows_of kept.state.table in
    let l : c.args.w.to ≤ length rs =
    omega (arith, c.requires.2.most) in
    let m : length rs < kept.state.limit = omega (arith, c.requires.1) in
    let added = added-shown kept.state kept.sound c.new_row-r.result (c.add.ensures (flat_of kept.state) kept.writes) l m in (
      added.0,
      added.1,
      omega arith,
      omega arith,
    )

pub returns : goal.returns
unfolding raise
returns c = λ st s w o.
    let k = key_num c.args.k in
    let key = c.from-key.ensures in
    let from = from_at st s k key.small refl (c.requires.2.from_is st s w) in
    let to = to_at st s k key.small refl (c.requires.2.to_is st s w) in
    let d = c.new_row-r.result in
    let m = its-mark st s k d from to (c.mark_in-mark.ensures (flat_of st) d w) in
    let r = c.new_row-r.ensures (at k st.table) (key.hash ∙ its-hash st s k key.small)
    (key.kind ∙ its-kind st s k key.small) o m in
    pushed st s k (candidate_of c.args.c) to r o refl
    (c.count_in.ensures _ (conns_in_order (rows_of st.table)) (c.add.ensures (flat_of st) w))
