-- `public_requests::on_sound::candidates::announce` meets its contract: an instance of crates/outcome/proofs/Carried.
use native.Mathlib.Omega.{arith}
use Rattle.outcome.proofs.Exits.{hands-on}
use Rattle.outcome.proofs.Carried.{refused_by, yes-no_done}
use Rattle.public_requests.proofs.Instances.{announces}
use Rattle.public_requests.proofs.on_sound.candidates.announce.Goals as goal

pub returns-in_err-of_connection : goal.returns-in_err-of_connection
returns-in_err-of_connection c =
    rw (hands-on _ c.from_residual.ensures.1) (refused_by (announces _).names c.requires _ c.in_err-of_connection.ensures.test)

pub returns : goal.returns
returns c =
    yes-no_done (announces _) c.requires
    c.in_ok-of_connection.ensures.test
    c.need_of-n.ensures (λ i. omega (arith, c.type_inv.s i)) c.announce.ensures c.replied.ensures
