-- `events::input::Session::end_line` meets its contract: the line is answered.
use mathlib.Core.Path.{refl}
use Rattle.events.proofs.Bytewise.{took_feed}
use Rattle.events.proofs.input.Session.end_line.Goals as goal

pub returns : goal.returns
returns _ c = λ p g. took_feed g refl c.answer.ensures
