-- `public_requests::on_sound::failures::failed` meets its contract: an instance of crates/outcome/proofs/Carried.
use native.Mathlib.Omega.{arith}
use Rattle.outcome.proofs.Exits.{hands-on}
use Rattle.outcome.proofs.Carried.{refused_by, yes-no_done}
use Rattle.public_requests.proofs.Instances.{fails}
use Rattle.public_requests.proofs.on_sound.failures.failed.Goals as goal

pub returns-in_err-of_connection_and_clock : goal.returns-in_err-of_connection_and_clock
returns-in_err-of_connection_and_clock c =
    rw (hands-on _ c.from_residual.ensures.1) (refused_by (fails _ _ _).names c.requires _ c.in_err-of_connection_and_clock.ensures.test)

pub returns : goal.returns
returns c =
    yes-no_done (fails _ _ _) c.requires
    c.in_ok-of_connection_and_clock.ensures.test
    c.need_of-n.ensures (λ i. omega (arith, c.type_inv.s i)) c.failed.ensures c.replied.ensures
