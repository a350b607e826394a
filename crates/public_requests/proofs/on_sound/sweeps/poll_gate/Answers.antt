-- `public_requests::on_sound::sweeps::poll_gate` meets its contract: an instance of crates/outcome/proofs/Carried.
use native.Mathlib.Omega.{arith}
use Rattle.outcome.proofs.Exits.{hands-on}
use Rattle.outcome.proofs.Carried.{refused_by, answers_done}
use Rattle.public_requests.proofs.Instances.{gates}
use Rattle.public_requests.proofs.on_sound.sweeps.poll_gate.Goals as goal

pub returns-in_err-clock : goal.returns-in_err-clock
returns-in_err-clock c =
    rw (hands-on _ c.from_residual.ensures.1) (refused_by (gates _).names c.requires _ c.in_err-clock.ensures.test)

pub returns : goal.returns
returns c =
    answers_done (gates _) c.requires
    c.in_ok-clock.ensures.test
    c.need_of-n.ensures (λ i. omega (arith, c.type_inv.s i)) (rw c.in_ok-clock.ensures.given at c.poll_gate.ensures) c.replied.ensures
