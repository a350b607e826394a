use mathlib.Core.Path.{◌∙◌}
use Rattle.ident.specs.Words.{key_num}
use Rattle.ident.proofs.Words.{key-four, hash_below}
use Rattle.requests.proofs.HashRows.{holds_there}
use Rattle.requests.proofs.Keeping.{kept_shown}
use Rattle.requests.proofs.holds_in.Goals as goal

pub find_row-requires : goal.find_row-requires
find_row-requires c = (kept_shown c.requires.0, c.requires.1.most)

pub returns : goal.returns
returns c = λ st s w.
    c.is_some.ensures ∙ holds_there st s w (key_num c.args.k) (hash_below c.args.k.hash (key-four c.args.k c.well_formed.1.0)) c.requires.1 c.args.n c.find_row.result c.find_row.ensures
