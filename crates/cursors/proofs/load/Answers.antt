use Rattle.cursors.proofs.InState.{loads}
use Rattle.cursors.proofs.load.Goals as goal

pub returns : goal.returns
returns c = record {
  state = loads _ c.next_poll.ensures c.cursor_at.ensures c.cursor_at-2.ensures;
  in_words = (c.next_poll.ensures, c.cursor_at.ensures, c.cursor_at-2.ensures);
}
