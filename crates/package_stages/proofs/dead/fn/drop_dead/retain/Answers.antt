-- The test of `package_stages::dead::drop_dead` tells of a place whether it is live.
use Prim.Native.Nat.{ℕ}
use mathlib.Core.Path.{ap}
use mathlib.Core.List.{[], ◌∷◌}
use lib.Dec.{ltb, lit<}
use Rattle.words.specs.Words.{words}
use Rattle.places.specs.Kinds.{place_kind}
use Rattle.regions.proofs.Retaining.{holds_one}
use Rattle.package_stages.proofs.Seeking.{head-stage}
use Rattle.package_stages.proofs.dead.fn.drop_dead.retain.Goals as goal

pub returns : goal.returns
returns c = λ x e. ap (λ (n : ℕ). ltb 0 n) (head-stage x (c.read_head.ensures.region 1 (x ∷ []) x (lit< tt) (holds_one place_kind (words c.args.p.now) x e)))
