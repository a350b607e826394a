use Rattle.ident.specs.Words.{key_num}
use Rattle.store.specs.Flat.{flat_of, rows_of}
use Rattle.requests.proofs.Keeping.{kept_shown, conns_in_order}
use Rattle.cutting.specs.Cuts.{stays}
use Rattle.cutting.proofs.Made.{dropped-shown, cuts_made}
use Rattle.cutting.proofs.cut_between.Goals as goal

pub drop_rows-d-requires : goal.drop_rows-d-requires
drop_rows-d-requires c = kept_shown c.requires

pub count_less-requires : goal.count_less-requires
count_less-requires c =
    let kept = c.requires in
    dropped-shown kept.state kept.sound (stays c.args.n
    c.from-a.result c.from-b.result)
    (c.drop_rows-d.ensures.rows (flat_of kept.state) kept.writes)

pub returns : goal.returns
returns c = λ st s w _.
    let from = c.from-a in
    let to = c.from-b in
    let dropped = c.drop_rows-d.ensures in
    cuts_made st s c.args.n
    (key_num c.args.from)
    (key_num c.args.to) from.result to.result from.ensures.number to.ensures.number _
    (dropped.gone (flat_of st) w) (c.count_less.ensures _ (conns_in_order (rows_of st.table)) (dropped.rows (flat_of st) w))
