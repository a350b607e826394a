-- `events::input::LineBuffer::keep` meets its contract: the bytes are the line's.
use mathlib.Core.Path.{refl}
use native.Mathlib.Omega.{arith}
use Rattle.events.proofs.Bytewise.{held-longer, held-over, held-on}
use Rattle.events.proofs.input.LineBuffer.keep.Goals as goal

pub returns-in_default : goal.returns-in_default
returns-in_default c = λ line h. held-longer c.args.self.now.so_far _ line c.args.bytes.now c.in_default.not-Whole h

pub returns-then-room-bytes : goal.returns-then-room-bytes
returns-then-room-bytes c = λ line h.
    held-over _ _ line c.args.bytes.now (rw c.in-Whole.is at h) (omega arith) _ c.copy_from_slice.ensures.after (omega (arith, c.min-kept.ensures))
    (omega (arith, c.min-kept.ensures, c.if-room-bytes.true)) (omega (arith, c.min-kept.ensures, c.if-room-bytes.true, c.in-Whole.len.in_room))

pub returns : goal.returns
returns c = λ line h.
    held-on _ _ line c.args.bytes.now (rw c.in-Whole.is at h) (omega arith) _ c.copy_from_slice.ensures.after (omega (arith, c.min-kept.ensures))
    _ refl (omega (arith, c.min-kept.ensures, c.in-Whole.len.in_room)) (omega (arith, c.min-kept.ensures, c.if-room-bytes.false))
