-- `tearing::drop_packages` meets its contract.
use mathlib.Core.Path.{sym}
use Rattle.store.specs.PartLaws.{place_laws}
use Rattle.store.proofs.Frame.{part-counted, part-lent, part_back}
use Rattle.package_stages.specs.Dead.{filter}
use Rattle.tearing.specs.Torn.{flagged}
use borrow.Author.Rules.{rules}
use Rattle.tearing.proofs.drop_packages.Goals as goal

pub returns : goal.returns
returns c = λ f h.
    let part = c.places_part-part.ensures in
    let held = part-lent place_laws h part in
    let n = sym (c.held_places-n.ensures.field f h) in
    let m = c.retain-m.ensures.count flagged (λ x u b e p. p x e) f.head.places f.places n held in
    part-counted place_laws h (search rules) (filter flagged f.places) c.retain-m.result (sym m) (part_back place_laws h part _ _
    c.retain-m.auto.s (c.retain-m.ensures.region flagged (λ x u b e p. p x e) f.head.places f.places n held))
    c.put.ensures.word
