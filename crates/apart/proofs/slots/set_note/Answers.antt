-- `apart::slots::set_note` meets its contract.
use mathlib.Core.List.{[], ◌∷◌}
use native.Mathlib.Omega.{arith}
use lib.Dec.{lit≤}
use Rattle.apart.specs.Apart.{kept_at, with_notes}
use Rattle.apart.proofs.SlotWords.{slot-noted}
use Rattle.apart.proofs.Slotted.{altered_first, altered_later}
use Rattle.apart.proofs.slots.set_note.Goals as goal

pub returns-then-i-eq0 : goal.returns-then-i-eq0
returns-then-i-eq0 c = altered_first c.args.m c.args.i kept_at (c.args.x.low ∷ c.args.x.high ∷ []) (with_notes c.args.x.low c.args.x.high) (lit≤ tt) (slot-noted c.args.x.low c.args.x.high)
    (omega (arith, c.if-i-eq0.true)) c.write_note.ensures

pub returns-else-i-eq0 : goal.returns-else-i-eq0
returns-else-i-eq0 c = altered_later c.args.m c.args.i kept_at (c.args.x.low ∷ c.args.x.high ∷ []) (with_notes c.args.x.low c.args.x.high) (lit≤ tt) (slot-noted c.args.x.low c.args.x.high) _
    (omega (arith, c.if-i-eq0.false)) c.requires.front c.write_note-else-i-eq0.auto.region c.write_note-else-i-eq0.ensures
