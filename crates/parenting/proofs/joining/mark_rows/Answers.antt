-- `parenting::joining::mark_rows` meets its contract.
use mathlib.Core.Path.{◌∙◌}
use native.Mathlib.Omega.{arith}
use Rattle.parenting.proofs.Waiting.{marking_kept, marking_goes, marking-ends}
use Rattle.parenting.proofs.joining.mark_rows.Goals as goal

pub mark-requires : goal.mark-requires
mark-requires c = marking_kept c.loop-i.invariant.1 c.requires

pub loop-i-preserved : goal.loop-i-preserved
loop-i-preserved c = (
  c.mark.auto.s ∙ c.loop-i.invariant.0,
  marking_goes c.loop-i.invariant.1 c.loop-i-test.true c.get-y.ensures c.key_of.ensures c.mark.ensures,
)

pub returns : goal.returns
returns c = marking-ends c.loop-i.invariant.1 (omega (arith, c.loop-i-test.false))
