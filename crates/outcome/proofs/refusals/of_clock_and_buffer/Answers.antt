-- `outcome::refusals::of_clock_and_buffer` meets its contract: the tests, each in its place.
use mathlib.Core.Path.{◌∙◌}
use Rattle.outcome.proofs.Exits.{hands-on}
use Rattle.outcome.proofs.Turns.{first-refused, first-passed, clock-sized}
use Rattle.outcome.proofs.refusals.of_clock_and_buffer.Goals as goal

pub returns-in_err-clock-clause-test : goal.returns-in_err-clock-clause-test
returns-in_err-clock-clause-test c =
    rw (hands-on _ c.from_residual.ensures.1)
    (first-refused _ _ c.in_err-clock.ensures.test ∙ clock-sized _ c.args.length c.args.needs)

pub returns-in_err-of_buffer-clause-test : goal.returns-in_err-of_buffer-clause-test
returns-in_err-of_buffer-clause-test c =
    rw (hands-on _ c.from_residual-in_err-of_buffer.ensures.1)
    (first-passed c.in_ok-clock.ensures.test c.in_err-of_buffer.ensures ∙ clock-sized _ _ _)
