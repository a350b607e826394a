-- `apart::slots::note_at` meets its contract.
use native.Mathlib.Omega.{arith}
use Rattle.apart.proofs.Slotted.{note_first, note-later}
use Rattle.apart.proofs.slots.note_at.Goals as goal

pub returns-then-i-eq0 : goal.returns-then-i-eq0
returns-then-i-eq0 c = note_first c.args.m c.args.i (omega (arith, c.if-i-eq0.true)) c.read_note.ensures

pub returns : goal.returns
returns c = note-later c.args.m c.args.i (omega (arith, c.if-i-eq0.false)) c.read_note-2.ensures
