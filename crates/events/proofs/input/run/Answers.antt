-- `events::input::run` meets its contract: nothing is kept, all bytes are read, and the last line.
use Rattle.events.proofs.Bytewise.{ran}
use Rattle.events.proofs.input.run.Goals as goal

pub returns : goal.returns
returns _ c = let t = c.read_lines.ensures in ran t (c.end.ensures t.all.next t.all.held)
