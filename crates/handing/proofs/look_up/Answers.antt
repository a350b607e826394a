use native.Mathlib.Omega.{arith}
use Prim.Native.Nat.{◌<◌}
use mathlib.Core.Path.{sym, ap, ◌∙◌}
use lib.ListN.{length}
use Rattle.regions.specs.Rows.{key_number}
use Rattle.regions.proofs.Equal.{same_keys}
use Rattle.store.specs.Flat.{flat_of, rows_of}
use Rattle.handing.proofs.RowOwners.{row-says}
use Rattle.handing.proofs.look_up.Goals as goal

pub returns-then-eq : goal.returns-then-eq
returns-then-eq c = λ st s w.
    let n = c.rows-rows.ensures.field (flat_of st) w in
    let l : c.in-Some.i < length (rows_of st.table) = omega (arith, c.in-Some.ensures.1) in
    c.owns.ensures ∙ row-says st s c.args.n.number
    c.args.k c.from-in-Some.ensures l
    (c.row_at-r.ensures (flat_of st) c.row_at-r.result w)
    ((c.in-Some.ensures.0.first (flat_of st) w).found c.in-Some.ensures.1)
    (ap key_number (sym c.from.ensures ∙ same_keys c.from.result c.from-in-Some.result (sym c.eq.ensures ∙ c.if-eq.true)))
