use native.Mathlib.Omega.{arith}
use Prim.Native.Nat.{◌<◌}
use mathlib.Core.Path.{◌∙◌}
use lib.ListN.{length}
use Rattle.ident.specs.Words.{key_num}
use Rattle.machine.specs.Table.{at}
use Rattle.store.specs.Flat.{flat_of, rows_of}
use Rattle.store.proofs.Frame.{sizes}
use Rattle.store.proofs.RowsAt.{among}
use Rattle.requests.proofs.Keeping.{kept_shown, conns_in_order}
use Rattle.requests.proofs.Cutting.{row_there}
use Rattle.requests.proofs.Owning.{bits_few, replaced-shown, own_made}
use Rattle.requests.proofs.Finding.{found-within, found-ahead, never-missing}
use Rattle.requests.proofs.own.Goals as goal

pub row_at-r-requires : goal.row_at-r-requires
row_at-r-requires c = (kept_shown c.requires, found-within c.in-Some.ensures)

pub owned_row-requires : goal.owned_row-requires
owned_row-requires c =
    let kept = c.requires in
    let z = sizes kept.writes in
    let l : c.in-Some.i < length (rows_of kept.state.table) =
    omega (arith, found-within c.in-Some.ensures) in
    bits_few kept.state kept.sound c.in-Some.i c.row_at-r.result l
    (c.row_at-r.ensures (flat_of kept.state) c.row_at-r.result kept.writes)

pub set-requires : goal.set-requires
set-requires c = (
  kept_shown c.requires,
  found-within c.in-Some.ensures,
)

pub recount-requires : goal.recount-requires
recount-requires c =
    let kept = c.requires in (
      replaced-shown kept.state kept.sound c.in-Some.i
          c.owned_row.result (c.set.ensures (flat_of kept.state) kept.writes),
      omega arith,
    )

pub returns-in-Some : goal.returns-in-Some
returns-in-Some c = λ st s w p.
    let k = key_num c.args.k in
    let n = c.args.n in
    let key = c.from.ensures in
    let f = among n (at k st.table).candidates p.0 in
    let i = found-ahead st s k key.small key.number w n f c.in-Some.ensures in
    let q = c.row_at-r.ensures (flat_of st)
    c.row_at-r.result w ∙
    row_there k n 0 st.table s.bounded.ordered f c.row_at-r.result i in
    own_made st s k n f i q c.args.deadline
    p.1 c.owned_row.ensures
    (c.recount.ensures _ (conns_in_order (rows_of st.table)) (c.set.ensures (flat_of st) w))

pub returns-in_default : goal.returns-in_default
returns-in_default c = λ st s w p.
    let k = key_num c.args.k in
    let n = c.args.n in
    let key = c.from.ensures in
    let f = among n (at k st.table).candidates p.0 in
    absurd (never-missing st s k key.small key.number w n f c.in_default.ensures)
