use Rattle.ident.specs.Words.{key_num}
use Rattle.requests.proofs.Keeping.{from_at, to_at}
use Rattle.requests.proofs.Shearing.{all_out, gone_made}
use Rattle.requests.proofs.whole.drop_all.Goals as goal

pub drop_rows-requires : goal.drop_rows-requires
drop_rows-requires c = all_out c.requires c.window_of-w.ensures.order
    c.window_of-w.ensures.most c.count_out_rows.auto.s c.count_out_rows.ensures

pub returns : goal.returns
returns c = λ st s w free.
    let k = key_num c.args.k in
    let key = c.from-key.ensures in
    let from = from_at st s k key.small key.number (c.window_of-w.ensures.from_is st s w) in
    let to = to_at st s k key.small key.number (c.window_of-w.ensures.to_is st s w) in
    gone_made st s k from to free (c.drop_rows.ensures _ (c.count_out_rows.ensures st s w))
