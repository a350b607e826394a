use Rattle.store.proofs.Frame.{sizes}
use mathlib.Core.Path.{sym, ◌∙◌}
use native.Mathlib.Omega.{arith}
use Rattle.announcing.specs.Evicts.{found}
use Rattle.announcing.proofs.Scanning.{over_none, over_step}
use Rattle.announcing.proofs.evict.greatest_in.Goals as goal

pub loop-i-preserved : goal.loop-i-preserved
loop-i-preserved c = (
  omega arith,
  λ f w.
      let z = sizes w in
      over_step f.rows (found c.loop-i.greatest) c.row_at-r.result c.loop-i.i c.args.w.to
      (omega arith) (omega (arith, c.requires.1)) c.greater-greatest.ensures (c.row_at-r.ensures f c.row_at-r.result w)
      (c.loop-i.invariant.1 f w),
)

pub returns : goal.returns
returns c = λ f w. sym (over_none f.rows (found c.loop-i.greatest) c.loop-i.i c.args.w.to (omega arith)) ∙ c.loop-i.invariant.1 f w
