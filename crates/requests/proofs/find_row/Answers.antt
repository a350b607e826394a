use Rattle.requests.proofs.Finding.{found_among}
use Rattle.requests.proofs.Keeping.{kept_shown}
use Rattle.requests.proofs.find_row.Goals as goal

pub find_row-requires : goal.find_row-requires
find_row-requires c = (kept_shown c.requires, c.window_of.ensures.most)

pub returns : goal.returns
returns c = found_among c.args.n c.window_of.ensures c.find_row.result c.find_row.ensures
