use native.Mathlib.Omega.{arith}
use Prim.Native.Nat.{◌<◌}
use lib.ListN.{length}
use Rattle.store.specs.Flat.{flat_of, rows_of, tally}
use Rattle.store.proofs.Frame.{sizes}
use Rattle.store.proofs.Tally.{fresh}
use Rattle.requests.proofs.Keeping.{kept_shown, conns_in_order}
use Rattle.requests.proofs.ConnFigures.{figures_found, figures-missing}
use Rattle.requests.proofs.figures.Goals as goal

pub find-requires : goal.find-requires
find-requires c = kept_shown c.requires

pub at-requires : goal.at-requires
at-requires c = (kept_shown c.requires, c.in-Ok.ensures.inside)

pub returns-in-Ok : goal.returns-in-Ok
returns-in-Ok c = λ st s w.
    let d = fresh 0 0 in
    let z = sizes w in
    let found = c.in-Ok.ensures in
    let bd = found.sought.bound (flat_of st) w (conns_in_order (rows_of st.table)) in
    let l : c.in-Ok.i < length (tally (rows_of st.table)) = omega (arith, found.inside) in
    figures_found st s c.args.n bd d l (found.is (flat_of st) d w) (c.at.ensures (flat_of st) d w)

pub returns-in-Err : goal.returns-in-Err
returns-in-Err c = λ st s w.
    let d = fresh 0 0 in
    let none = c.in-Err.ensures in
    figures-missing st s c.args.n (none.sought.bound (flat_of st) w (conns_in_order (rows_of st.table))) d (λ l z. none.not (flat_of st) d w l z)
