-- `listed_pairs::below` meets its contract. The loop's invariant: the requests that were passed come to nothing.
use mathlib.Core.Path.{refl, ◌∙◌}
use Rattle.listed_pairs.proofs.Skipping.{below_on}
use Rattle.listed_pairs.proofs.below.Goals as goal

pub loop-r-preserved : goal.loop-r-preserved
loop-r-preserved c =
    let i = c.loop-r.invariant in
    let e = c.in-Some.ensures.same in
    let d = c.skip.ensures.same in
    let s = rw e at c.skip.ensures.skips in
    (refl, d ∙ e ∙ rw i.0 at i.1, rw (d, e) (below_on (rw i.0 at i.2) c.in-Some.ensures.next.takes c.is_wtxid.ensures c.if-is_wtxid.false c.quad_less.ensures c.if-not-quad_less.false s))
