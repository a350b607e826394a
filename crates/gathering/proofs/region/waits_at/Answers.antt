-- `gathering::region::waits_at` meets its contract.
use mathlib.Core.Path.{ap, ◌∙◌}
use Rattle.ident.specs.Number.{place}
use Rattle.gathering.proofs.Looking.{waits_first, waits-second}
use Rattle.announcing.proofs.Lent.{hash_low}
use Rattle.gathering.proofs.region.waits_at.Goals as goal

pub returns-then-has_key : goal.returns-then-has_key
returns-then-has_key c =
    let h = c.args.h in
    waits_first c.requires (hash_low h c.well_formed.1.0)
    c.has_key.ensures (c.from-a.ensures.number ∙ ap place c.from.ensures) c.if-has_key.true

pub returns-else-has_key : goal.returns-else-has_key
returns-else-has_key c =
    let h = c.args.h in
    waits-second c.requires
    (hash_low h c.well_formed.1.0) c.has_key.ensures
    (c.from-a.ensures.number ∙ ap place c.from.ensures) c.if-has_key.false
    c.has_key-else-has_key.ensures (c.from-b.ensures.number ∙ ap place c.from-2.ensures)
