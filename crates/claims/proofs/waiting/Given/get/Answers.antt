use mathlib.Core.Path.{refl, ◌∙◌}
use Rattle.ident.specs.Words.{item_num}
use Rattle.claims.proofs.Naming.{entry-item, kind-type}
use Rattle.claims.proofs.waiting.Given.get.Goals as goal

pub returns-in-Items : goal.returns-in-Items
returns-in-Items c = entry-item c.args.i (item_num c.item_at-item.result) c.item_at-item.result.hash c.in-Items.is c.requires c.item_at-item.ensures
    (c.eq.ensures ∙ kind-type c.item_at-item.result.kind 6) refl c.then_some.ensures
