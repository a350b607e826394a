use mathlib.Core.Path.{◌∙◌}
use Rattle.ident.specs.Words.{key_num}
use Rattle.requests.proofs.Finding.{found_holds}
use Rattle.requests.proofs.holds.Goals as goal

pub returns : goal.returns
returns c = λ st s w.
    let key = c.from.ensures in
    c.is_some.ensures ∙ found_holds st s (key_num c.args.k) key.small key.number w c.args.n _ c.find_row.ensures
