-- `outcome::refusals::in_turn` meets its contract: the tests, each in its place.
use mathlib.Core.Path.{◌∙◌}
use Rattle.outcome.proofs.Exits.{hands-on}
use Rattle.outcome.proofs.Turns.{first-refused, first-passed, sizes-named}
use Rattle.outcome.proofs.refusals.in_turn.Goals as goal

pub returns-in_err-named-clause-test : goal.returns-in_err-named-clause-test
returns-in_err-named-clause-test c =
    rw (hands-on _ c.from_residual.ensures.1)
    (first-refused _ _ c.in_err-named.ensures.test ∙ sizes-named _ _ c.args.parents c.args.length c.args.needs)

pub returns-in_err-of_buffer-clause-test : goal.returns-in_err-of_buffer-clause-test
returns-in_err-of_buffer-clause-test c =
    rw (hands-on _ c.from_residual-in_err-of_buffer.ensures.1)
    (first-passed c.in_ok-named.ensures.test (first-passed c.in_ok-of_parents.ensures c.in_err-of_buffer.ensures) ∙ sizes-named _ _ _ _ _)
