use native.Mathlib.Omega.{arith}
use Prim.Native.Nat.{◌<◌}
use lib.ListN.{length}
use Rattle.ident.specs.Words.{key_num}
use Rattle.machine.specs.Table.{at}
use Rattle.store.specs.Flat.{flat_of, rows_of}
use Rattle.store.proofs.Frame.{sizes}
use Rattle.store.proofs.RowsAt.{among}
use Rattle.requests.proofs.Keeping.{kept_shown, conns_in_order}
use Rattle.requests.proofs.Cutting.{dropped-shown, cut_made}
use Rattle.requests.proofs.Finding.{found-within, found-ahead, never-missing}
use Rattle.requests.proofs.cut.Goals as goal

pub drop-requires : goal.drop-requires
drop-requires c = (kept_shown c.requires, found-within c.in-Some.ensures)

pub count_out-requires : goal.count_out-requires
count_out-requires c =
    let kept = c.requires in
    let z = sizes kept.writes in
    let l : c.in-Some.i < length (rows_of kept.state.table) =
    omega (arith, found-within c.in-Some.ensures) in
    dropped-shown kept.state kept.sound (c.drop.ensures (flat_of kept.state) kept.writes) l

pub returns-in-Some : goal.returns-in-Some
returns-in-Some c = λ st s w p.
    let k = key_num c.args.k in
    let n = c.args.n in
    let key = c.from.ensures in
    let f = among n (at k st.table).candidates p.0 in
    let i = found-ahead st s k key.small key.number w n f c.in-Some.ensures in
    cut_made st s k n p.1 f i (c.count_out.ensures _ (conns_in_order (rows_of st.table)) (c.drop.ensures (flat_of st) w))

pub returns-in_default : goal.returns-in_default
returns-in_default c = λ st s w p.
    let k = key_num c.args.k in
    let n = c.args.n in
    let key = c.from.ensures in
    let f = among n (at k st.table).candidates p.0 in
    absurd (never-missing st s k key.small key.number w n f c.in_default.ensures)
