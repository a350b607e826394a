-- The test of `cutting::drop_rows` tells of a row whether it stays.
use mathlib.Core.Path.{ap, ◌∙◌}
use mathlib.Core.Bool.{not}
use mathlib.Core.List.{[], ◌∷◌}
use lib.Dec.{lit<}
use Rattle.words.specs.Words.{words}
use Rattle.regions.specs.Kinds.{row_kind}
use Rattle.regions.proofs.Retaining.{holds_one}
use Rattle.cutting.specs.Cuts.{stays}
use Rattle.cutting.proofs.fn.drop_rows.retain.Goals as goal

pub returns : goal.returns
returns c = λ x e.
    ap not c.goes.ensures
    ∙ ap (stays c.captures.p.conn c.captures.p.from c.captures.p.to) (c.read.ensures.region 1 (x ∷ []) x (lit< tt) (holds_one row_kind (words c.args.r.now) x e))
