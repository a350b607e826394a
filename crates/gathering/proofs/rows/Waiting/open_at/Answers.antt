-- `gathering::rows::Waiting::open_at` meets its contract.
use Rattle.gathering.proofs.Looking.{open_none, open_by}
use Rattle.gathering.proofs.rows.Waiting.open_at.Goals as goal

pub returns-then-self-ge-SPACE : goal.returns-then-self-ge-SPACE
returns-then-self-ge-SPACE c = open_none c.if-self-ge-SPACE.true

pub returns : goal.returns
returns c = open_by c.if-self-ge-SPACE.false (rw (c.new.ensures.0, c.new.ensures.1) at c.waits_at.ensures)
