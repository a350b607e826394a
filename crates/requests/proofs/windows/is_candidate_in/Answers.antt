use Rattle.requests.proofs.HashRows.{met_first, met_second}
use Rattle.requests.proofs.Keeping.{kept_shown}
use Rattle.requests.proofs.windows.is_candidate_in.Goals as goal

pub find_row-requires : goal.find_row-requires
find_row-requires c = (kept_shown c.requires.0, c.requires.1.by_txid.most)

pub find_row-requires-else-is_some : goal.find_row-requires-else-is_some
find_row-requires-else-is_some c = (kept_shown c.requires.0, c.requires.1.by_wtxid.most)

pub returns-then-is_some : goal.returns-then-is_some
returns-then-is_some c = λ st s w. met_first st s w c.requires.1 c.args.n c.find_row.result c.find_row.ensures c.is_some.ensures c.if-is_some.true

pub returns-else-is_some : goal.returns-else-is_some
returns-else-is_some c = λ st s w.
    met_second st s w c.requires.1 c.args.n c.find_row.result c.find_row.ensures c.is_some.ensures c.if-is_some.false
    c.find_row-else-is_some.result c.find_row-else-is_some.ensures c.is_some-else-is_some.ensures
