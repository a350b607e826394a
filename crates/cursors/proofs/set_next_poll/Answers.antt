use mathlib.Core.Path.{ap, ◌∙◌}
use mir.Val.{bool_byte}
use native.Mathlib.Omega.{arith}
use Rattle.words.specs.Words.{words}
use Rattle.words.proofs.Words.{length-words}
use Rattle.cursors.specs.InWords.{poll_at}
use Rattle.cursors.proofs.HeaderWords.{poll_written}
use Rattle.cursors.proofs.set_next_poll.Goals as goal

pub returns : goal.returns
returns c = poll_written c.args.m (words c.args.s.now) poll_at (omega (arith, length-words c.args.s.now, c.requires))
    (c.from.ensures ∙ ap bool_byte c.is_some.ensures) c.unwrap_or.ensures c.put.ensures.word c.put-2.ensures.word
