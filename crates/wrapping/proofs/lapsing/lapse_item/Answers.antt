-- `wrapping::lapsing::lapse_item` meets its contract.
use mathlib.Core.Path.{sym, ◌∙◌}
use Rattle.ident.specs.Words.{key_num, item_num}
use Rattle.ident.specs.Number.{key_of}
use Rattle.wrapping.proofs.LapsedItems.{keyless_listed, refused_listed, lapsed_listed}
use Rattle.wrapping.proofs.lapsing.lapse_item.Goals as goal

pub returns-in_default : goal.returns-in_default
returns-in_default c = keyless_listed c.args.n c.args.clock (key_of (item_num c.args.item)) c.in_default.ensures

pub returns-then-not-lapses : goal.returns-then-not-lapses
returns-then-not-lapses c =
    refused_listed c.args.n c.args.clock (key_of (item_num c.args.item)) (key_num c.in-Some.k) c.in-Some.ensures (λ st s w. sym (c.lapses.ensures st s w) ∙ c.if-not-lapses.true)

pub returns : goal.returns
returns c =
    lapsed_listed c.args.n c.args.clock (key_of (item_num c.args.item)) (key_num c.in-Some.k) c.in-Some.ensures (λ st s w. sym (c.lapses.ensures st s w) ∙ c.if-not-lapses.false)
    c.lapse.ensures c.requires.1 c.put_key.ensures
