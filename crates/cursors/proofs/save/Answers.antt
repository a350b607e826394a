use mathlib.Core.Path.{◌∙◌}
use Rattle.cursors.proofs.InState.{saves}
use Rattle.cursors.proofs.save.Goals as goal

pub returns : goal.returns
returns c =
    let e = c.set_cursor-2.ensures ∙ rw (c.set_cursor.ensures, c.set_next_poll.ensures) in
    record { state = saves c.args.c (c.set_cursor-2.auto.s ∙ c.set_cursor.auto.s ∙ c.set_next_poll.auto.s) e; in_words = e }
