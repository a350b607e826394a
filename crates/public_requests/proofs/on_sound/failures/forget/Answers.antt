-- `public_requests::on_sound::failures::forget` meets its contract: an instance of crates/outcome/proofs/Carried.
use mathlib.Core.Path.{refl}
use native.Mathlib.Omega.{arith}
use Rattle.outcome.proofs.Turns.{nothing-named}
use Rattle.outcome.proofs.Carried.{yes-no_done}
use Rattle.public_requests.proofs.Instances.{forgets}
use Rattle.outcome.proofs.Replies.{silent-answer}
use Rattle.public_requests.proofs.on_sound.failures.forget.Goals as goal

pub returns : goal.returns
returns c =
    yes-no_done (forgets _) c.requires nothing-named c.need_of-n.ensures
    (λ i. omega (arith, c.type_inv.s i)) (silent-answer c.forget.ensures) refl
