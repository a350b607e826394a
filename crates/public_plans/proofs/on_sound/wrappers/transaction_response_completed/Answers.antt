-- `public_plans::on_sound::wrappers::transaction_response_completed` meets its contract: an instance of crates/outcome/proofs/Carried.
use mathlib.Core.Path.{refl}
use native.Mathlib.Omega.{arith}
use Rattle.outcome.proofs.Exits.{hands-on}
use Rattle.outcome.proofs.Carried.{refused_by, yes-no_done}
use Rattle.outcome.proofs.Replies.{silent-answer}
use Rattle.public_plans.proofs.Instances.{completes}
use Rattle.public_plans.proofs.on_sound.wrappers.transaction_response_completed.Goals as goal

pub returns-in_err-of_connection_and_clock : goal.returns-in_err-of_connection_and_clock
returns-in_err-of_connection_and_clock c =
    rw (hands-on _ c.from_residual.ensures.1) (refused_by (completes _ _ _ _).names c.requires _ c.in_err-of_connection_and_clock.ensures.test)

pub returns : goal.returns
returns c =
    yes-no_done (completes _ _ _ _) c.requires
    c.in_ok-of_connection_and_clock.ensures.test
    c.need_of-n.ensures (λ i. omega (arith, c.type_inv.s i)) (silent-answer c.transaction_response_completed.ensures) refl
