use borrow.Author.Tests.{eqb-true}
use lib.ListN.{length}
use mathlib.Core.Path.{sym, ◌∙◌}
use Rattle.handing.proofs.GivingBack.{no-parents}
use Rattle.handing.proofs.is_childless.Goals as goal

pub returns : goal.returns
returns c = λ e st s w. no-parents _ (eqb-true (length c.parents_for.result.now) 0 (sym c.is_empty.ensures ∙ e)) (c.parents_for.ensures.1 st s w)
