-- `public_requests::on_sound::sweeps::sweep` meets its contract: an instance of crates/outcome/proofs/Carried.
use mathlib.Core.Path.{◌∙◌}
use native.Mathlib.Omega.{arith}
use Rattle.outcome.proofs.Turns.{passed}
use Rattle.outcome.proofs.Exits.{hands-on}
use Rattle.outcome.proofs.Carried.{refused_by, front_limit, hands_done}
use Rattle.public_requests.proofs.Instances.{sweeps}
use Rattle.outcome.proofs.ListedKeys.{sweep-typed}
use Rattle.public_requests.proofs.on_sound.sweeps.sweep.Goals as goal

pub returns-in_err-of_buffer : goal.returns-in_err-of_buffer
returns-in_err-of_buffer c =
    rw (hands-on _ c.from_residual.ensures.1) (refused_by (sweeps _).names c.requires _ (c.in_err-of_buffer.ensures ∙ rw (c.sweep_needs-needs.ensures c.requires)))

pub sweep-handed-requires : goal.sweep-handed-requires
sweep-handed-requires c = (
  c.need_of-n.ensures.kept,
  omega (
    arith,
    (passed c.in_ok-of_buffer.ensures).room,
    c.sweep_needs-needs.ensures c.requires,
    front_limit
        c.requires c.need_of-n.ensures,
  ),
)

pub returns : goal.returns
returns c =
    hands_done (sweeps _) c.requires
    (c.in_ok-of_buffer.ensures ∙ rw (c.sweep_needs-needs.ensures c.requires)) c.need_of-n.ensures
    (λ i. omega (arith, c.type_inv.s i))
    (sweep-typed c.requires.state
    c.requires.sound) c.sweep-handed.ensures
