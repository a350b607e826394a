-- `wrapping::missing::not_found_one` meets its contract.
use mathlib.Core.Path.{sym, ◌∙◌}
use Rattle.ident.specs.Words.{item_num}
use Rattle.wrapping.proofs.Unfound.{one_keyed, one_info, one_keyless}
use Rattle.wrapping.proofs.missing.not_found_one.Goals as goal

pub returns-then-is_info : goal.returns-then-is_info
returns-then-is_info c = one_info c.args.n.number c.args.clock (item_num c.args.item) _ (sym c.is_info.ensures ∙ c.if-is_info.true)
    c.from-k.ensures c.fail_info.ensures

pub returns-in-Some : goal.returns-in-Some
returns-in-Some c = one_keyed c.args.n.number c.args.clock (item_num c.args.item) _ (sym c.is_info.ensures ∙ c.if-is_info.false)
    c.in-Some.ensures c.fail_listed.ensures

pub returns-in-None : goal.returns-in-None
returns-in-None c = one_keyless c.args.n.number c.args.clock (item_num c.args.item) (sym c.is_info.ensures ∙ c.if-is_info.false)
    c.in-None.ensures
