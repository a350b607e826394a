-- `tearing::idle::drop_idle` meets its contract.
use mathlib.Core.Path.{sym}
use Rattle.store.specs.PartLaws.{conn_laws}
use Rattle.store.proofs.Frame.{part-lent, part_back, part-counted}
use Rattle.package_stages.specs.Dead.{filter}
use Rattle.tearing.specs.Idle.{busy}
use borrow.Author.Rules.{rules}
use Rattle.tearing.proofs.idle.drop_idle.Goals as goal

pub returns : goal.returns
returns c = λ f h.
    let n = sym (c.conns-n.ensures.field f h) in
    let held = part-lent conn_laws h c.conns_part-part.ensures in
    let m = c.retain-m.ensures.count busy (λ x u b e p. p x e) f.head.limit f.conns n held in
    part-counted conn_laws h (search rules) (filter busy f.conns) c.retain-m.result (sym m) (part_back conn_laws h c.conns_part-part.ensures _ _
    c.retain-m.auto.s (c.retain-m.ensures.region busy (λ x u b e p. p x e) f.head.limit f.conns n held))
    c.put.ensures.word
