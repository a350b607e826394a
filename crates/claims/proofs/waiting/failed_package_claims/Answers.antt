use mathlib.Core.Logic.{inl}
use native.Mathlib.Omega.{arith}
use Rattle.store.proofs.Frame.{sizes}
use Rattle.claims.proofs.waiting.failed_package_claims.Goals as goal

pub fail_claims-requires : goal.fail_claims-requires
fail_claims-requires c = (
  c.requires.0,
  (λ st s w. inl (omega (arith, c.requires.1, s.bounded.room, (sizes w).places))),
)
