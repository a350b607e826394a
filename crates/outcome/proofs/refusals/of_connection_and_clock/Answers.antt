-- `outcome::refusals::of_connection_and_clock` meets its contract: the tests, each in its place.
use mathlib.Core.Path.{◌∙◌}
use Rattle.outcome.proofs.Exits.{hands-on}
use Rattle.outcome.proofs.Turns.{first-refused, first-passed, both_named}
use Rattle.outcome.proofs.refusals.of_connection_and_clock.Goals as goal

pub returns-in_err-connection-clause-test : goal.returns-in_err-connection-clause-test
returns-in_err-connection-clause-test c =
    rw (hands-on _ c.from_residual.ensures.1)
    (first-refused _ _ c.in_err-connection.ensures.test ∙ both_named _ c.args.time)

pub returns-in_err-clock-clause-test : goal.returns-in_err-clock-clause-test
returns-in_err-clock-clause-test c =
    rw (hands-on _ c.from_residual-in_err-clock.ensures.1)
    (first-passed c.in_ok-connection.ensures.test c.in_err-clock.ensures.test ∙ both_named _ _)
