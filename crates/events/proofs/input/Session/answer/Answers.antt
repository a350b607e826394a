-- `events::input::Session::answer` meets its contract: the text, and a line feed.
use native.Mathlib.Omega.{arith}
use Rattle.printing.proofs.Lines.{room_of}
use Rattle.events.proofs.Bytewise.{fed}
use Rattle.events.proofs.input.Session.answer.Goals as goal

pub returns : goal.returns
returns _ c = fed c.print-n.ensures (omega (arith, room_of c.print-n.ensures)) (omega arith)
