-- `public_plans::on_sound::wrappers::announce_transactions` meets its contract: an instance of crates/outcome/proofs/Carried.
use mathlib.Core.Path.{refl}
use native.Mathlib.Omega.{arith}
use Rattle.outcome.proofs.Exits.{hands-on}
use Rattle.outcome.proofs.Carried.{refused_by, yes-no_done}
use Rattle.outcome.proofs.Replies.{silent-within}
use Rattle.public_plans.proofs.Instances.{announces-transactions}
use Rattle.public_plans.proofs.on_sound.wrappers.announce_transactions.Goals as goal

pub returns-in_err-connection : goal.returns-in_err-connection
returns-in_err-connection c =
    rw (hands-on _ c.from_residual.ensures.1) (refused_by (announces-transactions _ _ _ _ _).names c.requires _ c.in_err-connection.ensures.test)

pub returns : goal.returns
returns c =
    yes-no_done (announces-transactions _ _ _ _ _) c.requires
    c.in_ok-connection.ensures.test
    c.need_of-n.ensures (λ i. omega (arith, c.type_inv.s i)) (silent-within (rw (c.in_ok-connection.ensures.given.0, c.in_ok-connection.ensures.given.1) at c.announce_transactions.ensures)) refl
