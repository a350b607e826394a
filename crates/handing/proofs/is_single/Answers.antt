use mathlib.Core.Path.{sym, ◌∙◌}
use borrow.Author.Tests.{eqb-true}
use Rattle.ident.specs.Words.{key_num}
use Rattle.requests.proofs.Keeping.{from_at, to_at}
use Rattle.requests.proofs.AtHash.{window-size}
use Rattle.handing.proofs.is_single.Goals as goal

pub returns : goal.returns
returns c = λ e st s w.
    let k = key_num c.args.k in
    let key = c.from-key.ensures in
    let from = from_at st s k key.small key.number (c.window_of-w.ensures.from_is st s w) in
    let to = to_at st s k key.small key.number (c.window_of-w.ensures.to_is st s w) in
    sym (c.len.ensures ∙ window-size k st.table from to) ∙ eqb-true _ 1 e
