-- `wire::write_item` meets its contract.
use mathlib.Core.Path.{ap, ◌∙◌}
use Rattle.ident.specs.Number.{Item}
use Rattle.words.specs.Words.{splice}
use Rattle.wire.specs.Payload.{wire_of}
use Rattle.ident.specs.Words.{item_num}
use Rattle.wire.proofs.Filling.{item-write}
use Rattle.wire.proofs.write_item.Goals as goal

pub returns : goal.returns
returns c =
    λ d. item-write c.args.s.now (item_num c.item_at-item.result) c.args.a
    c.requires.1 c.from.ensures c.put_type.ensures
    c.put_hash.ensures ∙ ap (λ (x : Item). splice c.args.s.now c.args.a (wire_of x))
    (c.item_at-item.ensures d)
