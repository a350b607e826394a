-- `events::input::Session::end` meets its contract: the last line, if there is one.
use mathlib.Core.Path.{sym, ◌∙◌}
use Rattle.events.proofs.Bytewise.{some-line, no-line, ended-line, ended-empty}
use Rattle.events.proofs.input.Session.end.Goals as goal

pub returns-then-has_line : goal.returns-then-has_line
returns-then-has_line _ c p g = ended-line g (some-line _ _ _ g.line_is (sym c.has_line.ensures ∙ c.if-has_line.true)) c.answer.ensures

pub returns-else-has_line : goal.returns-else-has_line
returns-else-has_line _ c p g = ended-empty g (no-line _ _ _ g.line_is (sym c.has_line.ensures ∙ c.if-has_line.false))
