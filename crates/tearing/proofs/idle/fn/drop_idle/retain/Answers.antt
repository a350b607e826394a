-- The test of `tearing::idle::drop_idle` tells of an entry whether it has a row.
use mathlib.Core.Path.{ap}
use mathlib.Core.List.{[], ◌∷◌}
use lib.Dec.{lit<}
use Rattle.words.specs.Words.{words}
use Rattle.regions.specs.Kinds.{conn_kind}
use Rattle.regions.proofs.Retaining.{holds_one}
use Rattle.tearing.specs.Idle.{busy}
use Rattle.tearing.proofs.idle.fn.drop_idle.retain.Goals as goal

pub returns : goal.returns
returns c = λ x e. ap busy (c.read.ensures.region 1 (x ∷ []) x (lit< tt) (holds_one conn_kind (words c.args.c.now) x e))
