-- The test of `tearing::drop_packages` tells of a place whether it has the flag alone.
use Prim.Native.Nat.{ℕ}
use mathlib.Core.Path.{ap}
use mathlib.Core.List.{[], ◌∷◌}
use lib.Dec.{eqb, lit<}
use Rattle.words.specs.Words.{words}
use Rattle.places.specs.Kinds.{place_kind}
use Rattle.regions.proofs.Retaining.{holds_one}
use Rattle.package_stages.proofs.Seeking.{head-stage}
use Rattle.tearing.proofs.fn.drop_packages.retain.Goals as goal

pub returns : goal.returns
returns c = λ x e. ap (λ (n : ℕ). eqb n 1) (head-stage x (c.read_head.ensures.region 1 (x ∷ []) x (lit< tt) (holds_one place_kind (words c.args.p.now) x e)))
