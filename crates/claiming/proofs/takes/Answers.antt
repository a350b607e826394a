-- `claiming::takes` meets its contract.
use mathlib.Core.Path.{sym, ap, ◌∙◌}
use mathlib.Core.Option.{some}
use Rattle.choosing.specs.Choosing.{picked}
use Rattle.claiming.specs.Claiming.{entry_of}
use Rattle.claiming.proofs.Below.{key_fours, item_fours}
use Rattle.claiming.proofs.Fields.{same_fields}
use Rattle.claiming.proofs.OneEntry.{same_taken, none_taken}
use Rattle.claiming.proofs.takes.Goals as goal

pub returns-in-Some : goal.returns-in-Some
returns-in-Some c = λ st s w.
    let e = c.args.e in
    let x = c.from.result in
    let f = c.well_formed.1.1.0 in
    let g = c.from.type_inv in
    same_taken c.args.clock (entry_of e) st.table (c.choose_free.ensures.is st s w) (ap picked c.in-Some.is ∙ ap some (sym c.from.ensures))
    (c.eq.ensures ∙ same_fields e x (key_fours e f) (key_fours x g) (item_fours e f) (item_fours x g))

pub returns-in-None : goal.returns-in-None
returns-in-None c = λ st s w. none_taken c.args.clock (entry_of c.args.e) st.table (c.choose_free.ensures.is st s w) (ap picked c.in-None.is)
