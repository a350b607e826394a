-- `events::input::Session::read_some` meets its contract: the bytes that came are read.
use mathlib.Core.List.{[]}
use Rattle.events.proofs.Bytewise.{took_none}
use Rattle.events.proofs.input.Session.read_some.Goals as goal

pub returns-then-n-eq0 : goal.returns-then-n-eq0
returns-then-n-eq0 _ c = λ p g. record { bytes = []; all = took_none g }
